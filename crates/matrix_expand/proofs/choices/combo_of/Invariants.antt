use Rattle.std.proofs.Common.{◌≡◌, ◌++◌, drop}
use Rattle.matrix_expand.specs.Choices.{row_pairs}
use Rattle.matrix_expand.proofs.choices.combo_of.Given as goal

-- the pairs that were set, before those that are left
abbrev pub invariant-loop-key : goal.invariant-loop-key
invariant-loop-key l = l.combo ++ row_pairs (drop l.key-index l.row) ≡ row_pairs l.row
