use Rattle.std.proofs.Common.{◌≡◌, ◌++◌, drop}
use Rattle.board_decisions.specs.Places.{run_sizes, all_jobs_from}
use Rattle.board_decisions.proofs.places.job_places.Given as goal

abbrev pub invariant-loop-place : goal.invariant-loop-place
invariant-loop-place l = l.places.items ++ all_jobs_from l.place (run_sizes (drop l.place l.runs)) ≡ all_jobs_from 0 (run_sizes l.runs)
