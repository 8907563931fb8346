use Rattle.std.proofs.Common.{◌≤◌, ◌-◌}
use Rattle.status_table.specs.Words.{board_legs}
use Rattle.command_print.proofs.LegTexts.{ToldUpTo}
use Rattle.command_print.proofs.touched.add_legs.Given as goal

-- all that is told of the legs before the number was added
abbrev pub invariant-loop-number : goal.invariant-loop-number
invariant-loop-number l = record {
  within : l.number ≤ l.end;
  told : ToldUpTo (board_legs l.boards.before.now) (board_legs l.boards.board.now) l.end l.first l.number l.initial.text l.text;
}

abbrev pub decreases-loop-number : goal.decreases-loop-number
decreases-loop-number l = l.end - l.number
