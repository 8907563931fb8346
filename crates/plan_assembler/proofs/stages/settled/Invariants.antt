use Rattle.std.proofs.Common.{◌≡◌, map, take, Some}
use Rattle.plan_assembler.proofs.stages.settled.Given as goal

abbrev pub invariant-loop-stage : goal.invariant-loop-stage
invariant-loop-stage l = map Some l.stages.items ≡ take l.stage-index l.found
