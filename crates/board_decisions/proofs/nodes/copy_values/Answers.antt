use Rattle.std.proofs.Common.{◌≡◌, ◌∷◌, ◌++◌, string_bytes, ap, sym, ◌∙◌}
use Rattle.plan_values.specs.Words.{pairs_of, viewed}
use Rattle.board_decisions.proofs.nodes.copy_values.Goals as goal
use Rattle.flow_model.proofs.Pairs.{with_pair-next}

pub loop-name-preserved : goal.loop-name-preserved
loop-name-preserved c =
    let left = c.next.new.self in
    let all : viewed c.loop-name.made ++ (string_bytes c.in-Some.name.now, c.in-Some.value.now) ∷ pairs_of left ≡ c.args.values.now =
    ap (λ es. viewed c.loop-name.made ++ pairs_of es) (sym c.in-Some.ensures.steps) ∙ c.loop-name.invariant in
    rw (c.in_ok-put_node.ensures, c.as_str.ensures.value, c.in_ok-node.ensures, c.node.ensures)
    (with_pair-next (viewed c.loop-name.made) (string_bytes c.in-Some.name.now) c.in-Some.value.now (pairs_of left) c.args.values.now all c.iter-name-items.ensures.ascends)
