use Rattle.std.proofs.Common.{◌≡◌, drop}
use Rattle.flow_model.specs.Rules.{are_distinct, step_ids}
use Rattle.flow_model.proofs.rules.are_steps_distinct.Given as goal

abbrev pub invariant-loop-place : goal.invariant-loop-place
invariant-loop-place l = are_distinct (step_ids (drop l.place l.steps)) ≡ are_distinct (step_ids l.steps)
