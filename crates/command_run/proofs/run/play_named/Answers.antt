use Rattle.command_run.proofs.Grown.{has_grown}
use Rattle.command_run.proofs.run.play_named.Goals as goal

pub returns-clause-grown : goal.returns-clause-grown
returns-clause-grown g c =
    let recorder = c.played_by-playing.result.1 in
    has_grown g.M.Growing.GrowingFile.holds c.args.ready.now.plan g.P.OfPlan.plan recorder.file recorder.whole c.played_by-playing.result.0 c.requires.plan c.played_by-playing.ensures.told
