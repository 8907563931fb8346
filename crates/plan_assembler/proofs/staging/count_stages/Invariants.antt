use Rattle.std.proofs.Common.{◌≡◌, max, drop}
use Rattle.plan_assembler.specs.Stages.{stage_after}
use Rattle.plan_assembler.proofs.staging.count_stages.Given as goal

abbrev pub invariant-loop-stage : goal.invariant-loop-stage
invariant-loop-stage l = max l.count (stage_after (drop l.stage-index l.found)) ≡ stage_after l.found
