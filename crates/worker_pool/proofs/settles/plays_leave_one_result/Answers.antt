use Rattle.worker_pool.proofs.Decided.{each_settles, plays_agree}
use Rattle.worker_pool.proofs.settles.plays_leave_one_result.Goals as goal

pub returns-clause-agree : goal.returns-clause-agree
returns-clause-agree g c = plays_agree c.order_changes_only_the_ends.ensures (g.H.StepHost.admits c.args.host.now)

pub returns-clause-settled : goal.returns-clause-settled
returns-clause-settled g c = each_settles c.boards_agree_with_what_is_settled.ensures.finishes (g.H.StepHost.admits c.args.host.now)
