use Rattle.std.proofs.Common.{◌≡◌, ◌++◌, drop}
use Rattle.board_timeline.specs.Bars.{bars, first, strip_seen}
use Rattle.board_timeline.proofs.bars.add_moments.Given as goal

abbrev pub invariant-loop-moment : goal.invariant-loop-moment
invariant-loop-moment l =
    l.canvas ++ bars (strip_seen l.strip) l.from (drop l.moment-index l.moments)
    ≡ l.initial.canvas ++ bars (strip_seen l.strip) first l.moments
