use Rattle.worker_pool.proofs.Checking.{told_unplayed}
use Rattle.worker_pool.proofs.settled.settled_check.Goals as goal

pub returns-in-Err : goal.returns-in-Err
returns-in-Err c =
    told_unplayed c.args.plan.now c.args.entries.now c.in-Err.place c.in-Err.fault c.unplayed.result c.in-Err.ensures.refused c.unplayed.ensures
