use Rattle.std.proofs.Common.{◌≡◌}
use Rattle.flow_model.specs.Mapping.{pairs_of}
use Rattle.matrix_expand.specs.Combos.{laid_over}
use Rattle.matrix_expand.proofs.overlay.lay_over.Given as goal

abbrev pub invariant-loop-name : goal.invariant-loop-name
invariant-loop-name l = laid_over (pairs_of l.name-iterator) l.combo ≡ laid_over l.entry l.fn.combo
