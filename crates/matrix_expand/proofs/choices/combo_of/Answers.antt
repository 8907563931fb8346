use Rattle.std.proofs.Common.{◌≡◌, ◌∷◌, ◌++◌, ◌+◌, List, drop, ap, sym, ◌∙◌}
use Rattle.flow_model.proofs.Pairs.{with_pair-next}
use Rattle.matrix_expand.specs.Choices.{row_pairs}
use Rattle.matrix_expand.proofs.Chosen.{Named, first_left}
use Rattle.matrix_expand.proofs.choices.combo_of.Goals as goal

pub loop-key-preserved : goal.loop-key-preserved
loop-key-preserved c =
    let p = c.loop-key-item.result in
    let row = c.args.row.now in
    let left = row_pairs (drop (c.loop-key.key-index + 1) row) in
    let all : c.loop-key.combo ++ (p.0.now, p.1.now) ∷ left ≡ row_pairs row =
    ap (λ (r : List Named). c.loop-key.combo ++ row_pairs r) (sym (first_left row c.loop-key.key-index p c.loop-key-test.true c.loop-key-item.is)) ∙ c.loop-key.invariant in
    rw (c.in_ok-set.ensures.ok, c.in_ok-copy.ensures) (with_pair-next c.loop-key.combo p.0.now p.1.now left (row_pairs row) all c.requires)
