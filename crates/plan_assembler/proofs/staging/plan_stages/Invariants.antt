use Rattle.std.proofs.Common.{◌≡◌, [], map, drop}
use Rattle.std.specs.List.{flat_map}
use Rattle.plan_assembler.specs.Staging.{stages_from, AreBounded}
use Rattle.plan_assembler.proofs.staging.plan_stages.Given as goal

abbrev pub invariant-loop-run : goal.invariant-loop-run
invariant-loop-run l = record {
  found : stages_from l.found.items (map (λ job. job.needs) (flat_map (λ run. run.jobs) (drop l.run-index l.runs))) ≡ stages_from [] (map (λ job. job.needs) (flat_map (λ run. run.jobs) l.runs));
  bounded : AreBounded l.found.items;
}
