use Rattle.std.proofs.Common.{◌≡◌, drop}
use Rattle.flow_model.specs.Mapping.{value_at}
use Rattle.matrix_expand.specs.Choices.{row_pairs}
use Rattle.matrix_expand.proofs.choices.found.Given as goal

-- none of the pairs before has the name
abbrev pub invariant-loop-key : goal.invariant-loop-key
invariant-loop-key l = value_at l.name (row_pairs (drop l.key-index l.row)) ≡ value_at l.name (row_pairs l.row)
