use Rattle.std.proofs.Common.{sym, subst}
use Rattle.std.proofs.lemmas.Result.{IfOk-weaker}
use Rattle.status_table.specs.Words.{IsPlan}
use Rattle.worker_pool.specs.Many.{StopsByMany}
use Rattle.worker_pool.proofs.Checked.{told_of_nothing}
use Rattle.worker_pool.proofs.Reviews.{none_played}
use Rattle.worker_pool.proofs.many.play_recorded.Goals as goal

pub returns-in-Err-clause-stopped : goal.returns-in-Err-clause-stopped
returns-in-Err-clause-stopped g c =
    let p = c.args.plan.now in
    let admits = g.H.StepHost.admits c.args.host.now in
    subst (StopsByMany admits (g.H.StepHost.declines c.args.host.now) p c.args.workers) (sym c.after.ensures)
    (none_played admits p c.args.workers c.new.result.items c.new.ensures.items)

pub returns-in-Ok-clause-settled : goal.returns-in-Ok-clause-settled
returns-in-Ok-clause-settled g c =
    IfOk-weaker c.in-Ok.come.0 _ _ (λ played h.
    c.plays_leave_what_is_settled.ensures.many c.args.plan.now c.args.workers played
    (subst IsPlan c.plan.ensures.same c.plan.ensures.sound) h) c.in-Ok.ensures.played

pub returns-in-Err-clause-told : goal.returns-in-Err-clause-told
returns-in-Err-clause-told g c =
    told_of_nothing (g.W.Recorder.told c.in-Err.recorder) c.new.result.items c.after.result c.in-Err.ensures.unplayed c.new.ensures.items c.after.ensures
