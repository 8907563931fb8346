use Rattle.std.proofs.Common.{◌≡◌, length, take, sum_by}
use Rattle.status_table.proofs.moves.count_jobs.Given as goal

abbrev pub invariant-loop-run : goal.invariant-loop-run
invariant-loop-run l = l.count ≡ sum_by (λ run. length run.jobs) (take l.run-index l.runs)
