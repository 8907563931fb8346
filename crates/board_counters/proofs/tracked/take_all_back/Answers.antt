use Rattle.std.proofs.Common.{◌∙◌}
use Rattle.board_counters.proofs.Undone.{one_back}
use Rattle.board_counters.proofs.tracked.take_all_back.Goals as goal

pub loop-change-preserved : goal.loop-change-preserved
loop-change-preserved c = record {
  plan = c.take_back.ensures.plan ∙ c.loop-change.invariant.plan;
  board = one_back c.pop.new.self.items c.loop-change.left.items c.in-Some.change c.loop-change.counted.board c.take_back.new.self.board
      c.in-Some.ensures.items c.take_back.ensures.board
      ∙ c.loop-change.invariant.board;
}
