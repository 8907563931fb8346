use Rattle.std.proofs.Common.{◌≡◌, drop}
use Rattle.plan_assembler.specs.Layout.{ids_of, is_one_of}
use Rattle.plan_assembler.proofs.layout.is_job.Given as goal

abbrev pub invariant-loop-job : goal.invariant-loop-job
invariant-loop-job l = is_one_of (ids_of (drop l.job-index l.jobs)) l.id ≡ is_one_of (ids_of l.jobs) l.id
