use Rattle.std.proofs.Common.{◌≡◌}
use Rattle.board_settled.specs.Words.{filter, has_ended_at, numbers}
use Rattle.board_settled.proofs.quiet.ended_below.Given as goal

-- those of the numbers so far
abbrev pub invariant-loop-number : goal.invariant-loop-number
invariant-loop-number l = l.made ≡ filter (has_ended_at l.board) (numbers l.number)
