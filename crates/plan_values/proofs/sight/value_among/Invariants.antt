use Rattle.std.proofs.Common.{◌≡◌, drop}
use Rattle.flow_model.specs.Mapping.{value_at}
use Rattle.plan_values.specs.Known.{contexts_by, value_made}
use Rattle.plan_values.proofs.sight.value_among.Given as goal

abbrev pub invariant-loop-context : goal.invariant-loop-context
invariant-loop-context l =
    value_at l.name (contexts_by (value_made l.known) (drop l.context-index l.contexts)) ≡ value_at l.name (contexts_by (value_made l.known) l.contexts)
