use Rattle.std.proofs.Common.{◌≡◌, ◌++◌, map}
use Rattle.board_decisions.specs.Places.{job_in, numbers}
use Rattle.board_decisions.proofs.places.add_run_jobs.Given as goal

abbrev pub invariant-loop-job : goal.invariant-loop-job
invariant-loop-job l = l.places.items ≡ l.initial.places.items ++ map (job_in l.run) (numbers l.job)
