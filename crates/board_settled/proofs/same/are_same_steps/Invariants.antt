use Rattle.std.proofs.Common.{◌≡◌, ◌↔◌, drop}
use Rattle.board_settled.proofs.same.are_same_steps.Given as goal

-- the steps that are left are the same where all are
abbrev pub invariant-loop-step : goal.invariant-loop-step
invariant-loop-step l = (drop l.step-index l.steps ≡ l.rest) ↔ (l.steps ≡ l.others)
