use Rattle.std.proofs.Common.{Result, IfErr, subst}
use Rattle.worker_pool.specs.Told.{IsAnswerOf}
use Rattle.worker_pool.specs.declared.fault.PoolFault.{PoolFault}
use Rattle.worker_pool.specs.declared.played.Played.{Played}
use Rattle.command_run.specs.Playing.{StopsPlayed}
use Rattle.command_run.proofs.playing.played_by.Goals as goal

pub returns-in-Err-clause-comes : goal.returns-in-Err-clause-comes
returns-in-Err-clause-comes g c =
    let p = c.args.plan.now in
    let workers = c.args.workers in
    c.stopped.ensures.comes p workers (subst (λ (r : Result Played PoolFault). IfErr r (StopsPlayed p workers)) c.in-Err.is c.play_by-come.ensures.stopped)

pub returns-in-Err-clause-told : goal.returns-in-Err-clause-told
returns-in-Err-clause-told g c =
    let told = c.play_by-come.ensures.told in
    (told.0, told.1, c.stopped.ensures.accepted told.0 (subst (λ (r : Result Played PoolFault). IsAnswerOf told.0 r) c.in-Err.is told.2))
