use Rattle.std.proofs.Common.{◌≡◌, ◌≤◌, ◌-◌, [], filter}
use Rattle.flat_board.specs.Words.{accepts, events_of}
use Rattle.flat_board.proofs.moves.first_of.Given as goal

abbrev pub invariant-loop-number : goal.invariant-loop-number
invariant-loop-number l = record {
  none : filter (accepts l.state.plan l.state.board) (events_of l.kind l.number) ≡ [];
  within : l.number ≤ l.count;
}

abbrev pub decreases-loop-number : goal.decreases-loop-number
decreases-loop-number l = l.count - l.number
