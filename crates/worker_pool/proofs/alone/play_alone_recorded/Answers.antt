use Rattle.std.proofs.Common.{◌≡◌, IfOk, ap, subst, sym}
use Rattle.std.proofs.lemmas.Result.{IfOk-weaker}
use Rattle.status_table.specs.Words.{IsPlan, Plan, Play}
use Rattle.worker_pool.specs.Alone.{EndsAlone, PlayedAlone}
use Rattle.worker_pool.specs.declared.played.Ending.{Ending}
use Rattle.worker_pool.specs.Fault.{StopsAlone}
use Rattle.worker_pool.specs.Settles.{SettlesAll}
use Rattle.worker_pool.proofs.Checked.{told_of_nothing_alone}
use Rattle.worker_pool.proofs.Grows.{nothing_played}
use Rattle.worker_pool.proofs.Turned.{done_without_groups}
use Rattle.worker_pool.proofs.alone.play_alone_recorded.Goals as goal

pub returns-in-Err-clause-stopped : goal.returns-in-Err-clause-stopped
returns-in-Err-clause-stopped g c =
    let p = c.args.plan.now in
    let admits = g.H.StepHost.admits c.args.host.now in
    subst (StopsAlone admits (g.H.StepHost.declines c.args.host.now) p) (sym c.after.ensures)
    (subst (PlayedAlone admits p) (sym c.new-in-Err.ensures.items) (nothing_played admits p))

pub returns-in-Ok-clause-groups : goal.returns-in-Ok-clause-groups
returns-in-Ok-clause-groups g c = λ none.
    let p = c.args.plan.now in
    let admits = g.H.StepHost.admits c.args.host.now in
    let same : c.in-Ok.table.plan ≡ p = ap (λ (x : Play). x.plan) c.in-Ok.ensures in
    let played : IfOk c.play_table.result.0 (EndsAlone admits p) =
    subst (λ (q : Plan). IfOk c.play_table.result.0 (EndsAlone admits q)) same c.play_table.ensures.played in
    let rules : IsPlan p = subst IsPlan same c.board.ensures.in_play.rules in
    IfOk-weaker c.play_table.result.0 (EndsAlone admits p) (λ x. x.ending ≡ Ending.Done) (λ x h. done_without_groups admits p x (c.stalled_only_by_groups.ensures.never p rules none) h) played

pub returns-in-Ok-clause-settled : goal.returns-in-Ok-clause-settled
returns-in-Ok-clause-settled g c =
    let p = c.args.plan.now in
    let admits = g.H.StepHost.admits c.args.host.now in
    let same : c.in-Ok.table.plan ≡ p = ap (λ (x : Play). x.plan) c.in-Ok.ensures in
    let played : IfOk c.play_table.result.0 (EndsAlone admits p) =
    subst (λ (q : Plan). IfOk c.play_table.result.0 (EndsAlone admits q)) same c.play_table.ensures.played in
    let rules : IsPlan p = subst IsPlan same c.board.ensures.in_play.rules in
    IfOk-weaker c.play_table.result.0 (EndsAlone admits p) (SettlesAll admits p) (λ x h. c.plays_leave_what_is_settled.ensures.one p x rules h) played

pub returns-in-Err-clause-told : goal.returns-in-Err-clause-told
returns-in-Err-clause-told g c =
    told_of_nothing_alone (g.W.Recorder.told c.args.recorder) c.new-in-Err.result.items c.after.result c.requires.told c.new-in-Err.ensures.items c.after.ensures
