use Rattle.status_table.proofs.InPlay.{few_in_play, few_jobs_in_play}
use Rattle.status_table.proofs.plain_board.PlainBoard.clerk_moves.Goals as goal

pub find_moves-requires-clause-jobs : goal.find_moves-requires-clause-jobs
find_moves-requires-clause-jobs c =
    few_jobs_in_play c.self.inside.plan c.plan.result.now c.self.inside.board c.plan.ensures.same c.plan.ensures.rules c.self.invariant

pub find_moves-requires-clause-legs : goal.find_moves-requires-clause-legs
find_moves-requires-clause-legs c =
    few_in_play c.self.inside.plan c.plan.result.now c.self.inside.board c.plan.ensures.same c.plan.ensures.rules c.self.invariant
