use Rattle.std.proofs.Common.{◌≡◌, ◌==◌, ◌++◌, drop, get_or}
use Rattle.std.specs.List.{filter}
use Rattle.plan_assembler.proofs.staging.in_stage.Given as goal

abbrev pub invariant-loop-job : goal.invariant-loop-job
invariant-loop-job l =
    l.list.items ++ filter (λ job. get_or l.found job.1 0 == l.stage) (drop l.job-index l.jobs) ≡ filter (λ job. get_or l.found job.1 0 == l.stage) l.jobs
