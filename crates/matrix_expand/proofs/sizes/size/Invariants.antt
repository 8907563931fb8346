use Rattle.std.proofs.Common.{◌≡◌, ◌≤◌, ◌*◌, true}
use Rattle.flow_model.specs.Mapping.{pairs_of}
use Rattle.matrix_expand.specs.Expands.{have_values, size}
use Rattle.matrix_expand.proofs.sizes.size.Given as goal

-- the choices of the variables so far, with those of the variables that are left, are all
abbrev pub invariant-loop-name : goal.invariant-loop-name
invariant-loop-name l = record {
  counted : l.total * size (pairs_of l._name-iterator) ≡ size l.variables;
  full : have_values (pairs_of l._name-iterator) ≡ true;
  few : l.total ≤ 65536;
}
