use Rattle.worker_pool.proofs.Settling.{many_settle, one_settles}
use Rattle.worker_pool.proofs.settles.plays_leave_what_is_settled.Goals as goal

pub returns-clause-many : goal.returns-clause-many
returns-clause-many g c = many_settle c.boards_agree_with_what_is_settled.ensures.finishes (g.H.StepHost.admits c.args.host.now)

pub returns-clause-one : goal.returns-clause-one
returns-clause-one g c = one_settles c.boards_agree_with_what_is_settled.ensures.finishes (g.H.StepHost.admits c.args.host.now)
