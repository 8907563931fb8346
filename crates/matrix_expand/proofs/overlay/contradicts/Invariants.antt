use Rattle.std.proofs.Common.{◌≡◌}
use Rattle.flow_model.specs.Mapping.{pairs_of}
use Rattle.matrix_expand.specs.Combos.{contradicts}
use Rattle.matrix_expand.proofs.overlay.contradicts.Given as goal

abbrev pub invariant-loop-name : goal.invariant-loop-name
invariant-loop-name l = contradicts l.original (pairs_of l.name-iterator) ≡ contradicts l.original l.entry
