use Rattle.std.proofs.Common.{◌≡◌}
use Rattle.flow_model.specs.Mapping.{pairs_of}
use Rattle.plan_values.specs.Own.{has_own_values}
use Rattle.plan_values.proofs.own.has_own_values.Given as goal

abbrev pub invariant-loop-name : goal.invariant-loop-name
invariant-loop-name l = has_own_values (pairs_of l._name-iterator) ≡ has_own_values l.env
