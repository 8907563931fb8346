use Rattle.std.proofs.Common.{◌≡◌, ◌≤◌, take}
use Rattle.board_counters.specs.Words.{counted_jobs}
use Rattle.board_counters.proofs.standing.count.Given as goal

abbrev pub invariant-loop-place : goal.invariant-loop-place
invariant-loop-place l = record {
  counted : l.count ≡ counted_jobs l.counter (take l.place l.run.jobs);
  small : l.count ≤ l.place;
}
