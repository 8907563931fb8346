use Rattle.std.proofs.Common.{◌≡◌, length, take, sum_by}
use Rattle.status_table.proofs.moves.count_legs_of.Given as goal

abbrev pub invariant-loop-job : goal.invariant-loop-job
invariant-loop-job l = l.count ≡ sum_by (λ job. length job.legs) (take l.job-index l.jobs)
