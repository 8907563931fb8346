use Rattle.std.proofs.Common.{◌≡◌}
use Rattle.flow_model.specs.Mapping.{pairs_of}
use Rattle.matrix_expand.specs.Expands.{have_values}
use Rattle.matrix_expand.proofs.sizes.have_values.Given as goal

abbrev pub invariant-loop-name : goal.invariant-loop-name
invariant-loop-name l = have_values (pairs_of l._name-iterator) ≡ have_values l.variables
