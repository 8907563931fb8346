use Rattle.std.proofs.Common.{◌≡◌, length}
use Rattle.board_counters.specs.Words.{undone}
use Rattle.board_counters.proofs.tracked.take_all_back.Given as goal

-- what is left leads from here to where all lead from there
abbrev pub invariant-loop-change : goal.invariant-loop-change
invariant-loop-change l = record {
  plan : l.counted.plan ≡ l.fn.counted.plan;
  board : undone l.left.items l.counted.board ≡ undone l.fn.changes.items l.fn.counted.board;
}

abbrev pub decreases-loop-change : goal.decreases-loop-change
decreases-loop-change l = length l.left.items
