use Rattle.std.proofs.Common.{◌≡◌, ◌<◌, ℕ, true}
use Rattle.flow_lint.specs.Walks.{is_left}
use Rattle.flow_lint.proofs.cycles.next_job.Given as goal

abbrev pub invariant-loop-place : goal.invariant-loop-place
invariant-loop-place l = (other : ℕ) → other < l.place → is_left l.left other ≡ true
