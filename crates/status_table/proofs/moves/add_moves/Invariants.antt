use Rattle.std.proofs.Common.{◌≡◌, ◌++◌, filter}
use Rattle.status_table.specs.Words.{accepts, events_of}
use Rattle.status_table.proofs.moves.add_moves.Given as goal

abbrev pub invariant-loop-number : goal.invariant-loop-number
invariant-loop-number l = l.all.items ≡ l.initial.all.items ++ filter (accepts l.plan l.board) (events_of l.candidates.kind l.number)
