use Rattle.std.proofs.Common.{◌≡◌, rules}
use Rattle.command_run.proofs.Played.{alone_ends_played, alone_stops_played, many_end_played, many_stop_played, told_of_all}
use Rattle.command_run.proofs.playing.play_by.Goals as goal

pub returns-then-workers-eq1-clause-played : goal.returns-then-workers-eq1-clause-played
returns-then-workers-eq1-clause-played g c =
    let one : c.args.workers ≡ 1 = search rules in
    alone_ends_played (g.H.StepHost.admits c.args.host.now) c.args.plan.now c.args.workers c.play_alone_recorded.result.0 c.requires.masks one c.play_alone_recorded.ensures.played

pub returns-then-workers-eq1-clause-stopped : goal.returns-then-workers-eq1-clause-stopped
returns-then-workers-eq1-clause-stopped g c =
    let one : c.args.workers ≡ 1 = search rules in
    alone_stops_played (g.H.StepHost.admits c.args.host.now) (g.H.StepHost.declines c.args.host.now) c.args.plan.now c.args.workers c.play_alone_recorded.result.0 c.requires.masks one
    c.play_alone_recorded.ensures.stopped

pub returns-clause-played : goal.returns-clause-played
returns-clause-played g c =
    many_end_played (g.H.StepHost.admits c.args.host.now) c.args.plan.now c.args.workers c.play_recorded.result.0 c.requires.masks c.play_recorded.ensures.number c.play_recorded.ensures.played

pub returns-clause-stopped : goal.returns-clause-stopped
returns-clause-stopped g c =
    many_stop_played (g.H.StepHost.admits c.args.host.now) (g.H.StepHost.declines c.args.host.now) c.args.plan.now c.args.workers c.play_recorded.result.0 c.requires.masks
    c.play_recorded.ensures.number c.play_recorded.ensures.stopped

pub returns-then-workers-eq1-clause-told : goal.returns-then-workers-eq1-clause-told
returns-then-workers-eq1-clause-told g c = told_of_all (g.W.Recorder.told c.play_alone_recorded.result.1) c.play_alone_recorded.result.0 c.play_alone_recorded.ensures.told
