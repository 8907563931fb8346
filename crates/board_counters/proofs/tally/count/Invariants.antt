use Rattle.std.proofs.Common.{◌≡◌, ◌≤◌, take}
use Rattle.board_counters.specs.Words.{counted}
use Rattle.board_counters.proofs.tally.count.Given as goal

abbrev pub invariant-loop-leg : goal.invariant-loop-leg
invariant-loop-leg l = record {
  counted : l.count ≡ counted l.counter (take l.leg-index l.legs);
  small : l.count ≤ l.leg-index;
}
