use Rattle.std.proofs.Common.{drop, flat_map}
use Rattle.worker_pool.proofs.Firsts.{Passed}
use Rattle.worker_pool.proofs.lowest.first_of_jobs.Given as goal

-- none of the legs of the jobs before may be taken, and the number is that of the next leg
abbrev pub invariant-loop-job : goal.invariant-loop-job
invariant-loop-job l =
    Passed (flat_map (λ job. job.legs) l.jobs) (flat_map (λ job. job.legs) (drop l.job-index l.jobs)) l.before l.number
