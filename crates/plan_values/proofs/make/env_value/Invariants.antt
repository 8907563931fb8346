use Rattle.std.proofs.Common.{◌≡◌, ◌++◌}
use Rattle.flow_model.specs.Mapping.{pairs_of, map_values}
use Rattle.flow_model.specs.Plain.{text}
use Rattle.flow_model.specs.Value.{viewed}
use Rattle.plan_values.proofs.make.env_value.Given as goal

-- The variables that were set and those that are left are all.
abbrev pub invariant-loop-name : goal.invariant-loop-name
invariant-loop-name l = viewed l.members ++ map_values text (pairs_of l.name-iterator) ≡ map_values text l.env
