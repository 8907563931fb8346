use Rattle.std.proofs.Common.{◌≡◌, map, drop}
use Rattle.plan_assembler.specs.Staging.{stages_from, AreBounded}
use Rattle.plan_assembler.proofs.staging.push_jobs.Given as goal

abbrev pub invariant-loop-job : goal.invariant-loop-job
invariant-loop-job l = record {
  found : stages_from l.found.items (map (λ job. job.needs) (drop l.job-index l.jobs)) ≡ stages_from l.fn.found.items (map (λ job. job.needs) l.jobs);
  bounded : AreBounded l.found.items;
}
