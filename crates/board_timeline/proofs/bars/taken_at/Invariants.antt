use Rattle.std.proofs.Common.{◌≡◌, drop}
use Rattle.board_timeline.specs.Bars.{taken_at}
use Rattle.board_timeline.proofs.bars.taken_at.Given as goal

abbrev pub invariant-loop-moment : goal.invariant-loop-moment
invariant-loop-moment l = taken_at (drop l.moment-index l.moments) ≡ taken_at l.moments
