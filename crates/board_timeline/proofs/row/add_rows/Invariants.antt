use Rattle.std.proofs.Common.{◌≡◌, ◌++◌}
use Rattle.board_timeline.specs.Rows.{new_rows}
use Rattle.board_timeline.proofs.row.add_rows.Given as goal

abbrev pub invariant-loop-row : goal.invariant-loop-row
invariant-loop-row l = l.rows.items ≡ l.initial.rows.items ++ new_rows l._row
