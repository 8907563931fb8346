use Rattle.std.proofs.Common.{subst, inr}
use Rattle.step_host.specs.Program.{log_file}
use Rattle.command_run.specs.StepLogs.{FileIs, files_of, in_folder}
use Rattle.command_run.proofs.LogTexts.{file_no_text, nothing_put, nothing_stopped}
use Rattle.command_run.proofs.step_logs.put_log.Goals as goal

pub returns-in_err-log_kind : goal.returns-in_err-log_kind
returns-in_err-log_kind g c =
    let gives = in_folder (files_of g.M.Machine.logs g.M.Log.Source.seen) c.args.workspace.now.work.now c.args.step in
    nothing_stopped gives _ _ _ _ _ _ (inr tt) c.from_residual.ensures.0

pub returns-in-Unread : goal.returns-in-Unread
returns-in-Unread g c =
    let name = log_file c.args.workspace.now.work.now c.args.step.0 c.args.step.1 in
    let gives = in_folder (files_of g.M.Machine.logs g.M.Log.Source.seen) c.args.workspace.now.work.now c.args.step in
    nothing_put gives _ _ _ _ (subst (FileIs g.M.Machine.logs g.M.Log.Source.seen name) c.in-Unread.is c.in_ok-log_kind.ensures)

pub returns-in-NoText : goal.returns-in-NoText
returns-in-NoText g c =
    let name = log_file c.args.workspace.now.work.now c.args.step.0 c.args.step.1 in
    file_no_text g.M.Machine.logs g.M.Log.Source.seen name _ _ _ _ _ c.put.result
    (subst (FileIs g.M.Machine.logs g.M.Log.Source.seen name) c.in-NoText.is c.in_ok-log_kind.ensures) c.put.ensures
