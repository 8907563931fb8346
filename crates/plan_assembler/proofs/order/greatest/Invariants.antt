use Rattle.std.proofs.Common.{◌≤◌, ◌<◌, ℕ, get_or}
use Rattle.plan_assembler.proofs.order.greatest.Given as goal

abbrev pub invariant-loop-stage : goal.invariant-loop-stage
invariant-loop-stage l = (j : ℕ) → j < l.stage-index → get_or l.stages j 0 ≤ l.greatest
