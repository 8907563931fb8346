use Rattle.std.proofs.Common.{◌≡◌, ◌++◌, map, drop}
use Rattle.plan_assembler.proofs.staging.push_run.Given as goal

abbrev pub invariant-loop-job : goal.invariant-loop-job
invariant-loop-job l = l.list.items ++ map (λ job. (l.run, job.number)) (drop l.job-index l.jobs) ≡ l.fn.list.items ++ map (λ job. (l.run, job.number)) l.jobs
