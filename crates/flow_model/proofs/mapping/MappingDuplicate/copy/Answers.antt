use Rattle.std.proofs.Common.{◌≡◌, ◌∷◌, ◌++◌, string_bytes, ap, sym, ◌∙◌}
use Rattle.flow_model.specs.Mapping.{pairs_of}
use Rattle.flow_model.proofs.Pairs.{with_pair-next}
use Rattle.flow_model.proofs.mapping.MappingDuplicate.copy.Goals as goal

pub loop-key-preserved : goal.loop-key-preserved
loop-key-preserved g c =
    let left = c.next.new.self in
    let all : c.loop-key.twin ++ (string_bytes c.in-Some.key.now, c.in-Some.value.now) ∷ pairs_of left ≡ c.args.self.now =
    ap (λ es. c.loop-key.twin ++ pairs_of es) (sym c.in-Some.ensures.steps) ∙ c.loop-key.invariant in
    rw (c.in_ok-set.ensures.ok, c.as_str.ensures.value, c.in_ok-copy.ensures)
    (with_pair-next c.loop-key.twin (string_bytes c.in-Some.key.now) c.in-Some.value.now (pairs_of left) c.args.self.now all c.iter-from.ensures.ascends)
