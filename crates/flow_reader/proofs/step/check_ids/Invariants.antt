use Rattle.std.proofs.Common.{◌≡◌, drop}
use Rattle.flow_model.specs.Rules.{step_ids}
use Rattle.flow_reader.specs.Step.{distinct}
use Rattle.flow_reader.proofs.step.check_ids.Given as goal

-- no id before stands again
abbrev pub invariant-loop-place : goal.invariant-loop-place
invariant-loop-place l = distinct (step_ids (drop l.place l.steps)) ≡ distinct (step_ids l.steps)
