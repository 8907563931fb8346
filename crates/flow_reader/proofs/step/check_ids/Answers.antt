use Rattle.std.proofs.Common.{sym, ◌∙◌}
use Rattle.flow_reader.proofs.Faults.{stands_again}
use Rattle.flow_reader.proofs.step.check_ids.Goals as goal

pub returns-then-is_step_id : goal.returns-then-is_step_id
returns-then-is_step_id c =
    stands_again c.args.steps.now c.loop-place.place c.index-steps-place.result c.in-Some.id _ c.bad_id.result c.loop-place-test.true c.index-steps-place.is c.in-Some.is
    (rw c.as_str.ensures at (sym c.is_step_id.ensures ∙ c.if-is_step_id.true)) c.loop-place.invariant (rw c.as_str-then-is_step_id.ensures at c.bad_id.ensures)
