use Rattle.std.proofs.Common.{◌≡◌, drop}
use Rattle.std.specs.List.{list_any}
use Rattle.std.specs.Str.{bytes_eq}
use Rattle.flow_model.specs.Rules.{step_ids}
use Rattle.flow_reader.proofs.step.is_step_id.Given as goal

-- none of the steps before has the id
abbrev pub invariant-loop-step : goal.invariant-loop-step
invariant-loop-step l = list_any (bytes_eq l.id) (step_ids (drop l.step-index l.steps)) ≡ list_any (bytes_eq l.id) (step_ids l.steps)
