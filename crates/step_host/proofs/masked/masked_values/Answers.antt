use Rattle.std.proofs.Common.{◌≡◌, ◌∷◌, ◌++◌, string_bytes, ap, sym, ◌∙◌}
use Rattle.status_table.specs.Words.{map_values, pairs_of}
use Rattle.flow_model.proofs.Pairs.{with_pair-next, Ascends-map_values}
use Rattle.flow_commands.specs.Mask.{masked}
use Rattle.step_host.proofs.masked.masked_values.Goals as goal

pub loop-name-preserved : goal.loop-name-preserved
loop-name-preserved c =
    let f = masked c.args.masks.now in
    let left = c.next.new.self in
    let all : c.loop-name.made ++ (string_bytes c.in-Some.name.now, f c.in-Some.value.now) ∷ map_values f (pairs_of left) ≡ map_values f c.args.pairs.now =
    ap (λ es. c.loop-name.made ++ map_values f (pairs_of es)) (sym c.in-Some.ensures.steps) ∙ c.loop-name.invariant in
    rw (c.in_ok-set.ensures.ok, c.as_str.ensures.value, c.in_ok-mask.ensures, c.as_str-in-loop-name.ensures)
    (with_pair-next c.loop-name.made (string_bytes c.in-Some.name.now) (f c.in-Some.value.now) (map_values f (pairs_of left)) _ all
    (Ascends-map_values f _ c.iter-from.ensures.ascends))
