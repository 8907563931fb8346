use Rattle.std.proofs.Common.{◌≡◌, ◌++◌, filter}
use Rattle.flat_board.specs.Words.{accepts, events_of}
use Rattle.flat_board.proofs.moves.add_moves.Given as goal

abbrev pub invariant-loop-number : goal.invariant-loop-number
invariant-loop-number l =
    l.all.items ≡ l.initial.all.items ++ filter (accepts l.state.plan l.state.board) (events_of l.kind l.number)
