use Rattle.std.proofs.Common.{Ok, ap, ◌∙◌}
use Rattle.command_io.proofs.Told.{Puts-as}
use Rattle.command_run.specs.StepLogs.{files_of, in_folder}
use Rattle.command_run.proofs.Telling.{files_begun, played_begun, played_cut, played_put}
use Rattle.command_run.proofs.run.put_played.Goals as goal

pub returns-in_err-put_logs : goal.returns-in_err-put_logs
returns-in_err-put_logs g c = played_begun _ _ _ _ _ _ _ _ _ c.put_logs.ensures c.in_err-put_logs.was c.from_residual.ensures.0

pub returns-then-branch : goal.returns-then-branch
returns-then-branch g c =
    let work = c.args.workspace.now.work.now in
    let gives = in_folder (files_of g.M.Machine.logs g.M.Log.Source.seen) work in
    played_put gives _ _ _ _ _ _ _ _ (files_begun g.M.Machine.logs g.M.Log.Source.seen work) c.put_logs.ensures (c.in_ok-put_logs.was ∙ ap Ok c.if-branch.true)
    (Puts-as _ _ _ _ _ c.put.ensures c.as_bytes.ensures.value)

pub returns : goal.returns
returns g c = played_cut _ _ _ _ _ _ _ c.put_logs.ensures (c.in_ok-put_logs.was ∙ ap Ok c.if-branch.false)
