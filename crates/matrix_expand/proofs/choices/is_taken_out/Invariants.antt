use Rattle.std.proofs.Common.{◌≡◌, drop}
use Rattle.std.specs.List.{list_any}
use Rattle.matrix_expand.specs.Choices.{row_pairs}
use Rattle.matrix_expand.specs.Combos.{takes_out}
use Rattle.matrix_expand.proofs.choices.is_taken_out.Given as goal

abbrev pub invariant-loop-entry : goal.invariant-loop-entry
invariant-loop-entry l = list_any (takes_out (row_pairs l.row)) (drop l.entry-index l.from) ≡ list_any (takes_out (row_pairs l.row)) l.from
