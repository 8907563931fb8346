use Rattle.std.proofs.Common.{◌≡◌, ◌≤◌, take}
use Rattle.board_counters.specs.Words.{open_among, settled_jobs}
use Rattle.board_counters.proofs.need.count_open.Given as goal

abbrev pub invariant-loop-need : goal.invariant-loop-need
invariant-loop-need l = record {
  counted : l.count ≡ open_among l.first (settled_jobs l.run) (take l.need-index l.needs);
  small : l.count ≤ l.need-index;
}
