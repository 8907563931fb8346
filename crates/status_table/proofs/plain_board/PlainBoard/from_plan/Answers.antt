use Rattle.status_table.proofs.InPlay.{new_in_play}
use Rattle.status_table.proofs.plain_board.PlainBoard.from_plan.Goals as goal

pub invariant_of-result : goal.invariant_of-result
invariant_of-result c =
    new_in_play c.args.plan c.plan-2.result.now c.in_ok-board.board c.plan-2.ensures.same c.plan-2.ensures.sound c.plan-2.ensures.rules c.in_ok-board.ensures
