use Rattle.std.proofs.Common.{◌≡◌, ◌≤◌, ◌+◌, drop, length}
use Rattle.plan_assembler.specs.Layout.{at_places}
use Rattle.plan_assembler.proofs.runs.count_jobs.Given as goal

abbrev pub invariant-loop-place : goal.invariant-loop-place
invariant-loop-place l = (l.count + length (at_places l.jobs (drop l.place-index l.places)) ≡ length (at_places l.jobs l.places)) × (l.count ≤ l.place-index)
