use Rattle.std.proofs.Common.{◌≡◌}
use Rattle.flow_model.specs.Mapping.{pairs_of}
use Rattle.matrix_expand.specs.Choices.{row_pairs}
use Rattle.matrix_expand.specs.Combos.{stands_in}
use Rattle.matrix_expand.proofs.choices.stands_in.Given as goal

abbrev pub invariant-loop-name : goal.invariant-loop-name
invariant-loop-name l = stands_in (pairs_of l.name-iterator) (row_pairs l.row) ≡ stands_in l.entry (row_pairs l.row)
