use Rattle.std.proofs.Common.{◌==◌, ℕ, List, Ok, Some, ap, subst, ◌∙◌, if◌then◌else◌, inl, inr, nat_eq}
use Rattle.std.specs.HashMap.{get}
use Rattle.step_host.specs.Program.{log_file}
use Rattle.command_run.specs.StepLogs.{added_by, files_of, in_folder}
use Rattle.command_run.proofs.LogTexts.{file_part, file_whole, nothing_put, nothing_stopped, text_cut, text_kept_not, text_put, text_stopped}
use Rattle.command_run.proofs.step_logs.put_text.Goals as goal

pub returns-in_err-lines : goal.returns-in_err-lines
returns-in_err-lines g c =
    let gives = in_folder (files_of g.M.Machine.logs g.M.Log.Source.seen) c.args.workspace.now.work.now c.args.step in
    nothing_stopped gives _ _ _ _ _ _ (inr tt) c.from_residual.ensures.0

pub returns-in_default : goal.returns-in_default
returns-in_default g c =
    let logs = g.M.Machine.logs in
    let name = log_file c.args.workspace.now.work.now c.args.step.0 c.args.step.1 in
    let gives = in_folder (files_of g.M.Machine.logs g.M.Log.Source.seen) c.args.workspace.now.work.now c.args.step in
    nothing_put gives _ _ _ _ (inl (subst (λ found. logs found name) c.in_default.is c.in_ok-lines.ensures))

pub returns-in_err-put_lines : goal.returns-in_err-put_lines
returns-in_err-put_lines g c =
    let logs = g.M.Machine.logs in
    let name = log_file c.args.workspace.now.work.now c.args.step.0 c.args.step.1 in
    let opened : logs (Some c.in-Some.lines) name = subst (λ found. logs found name) c.in-Some.is c.in_ok-lines.ensures in
    let gives = in_folder (files_of g.M.Machine.logs g.M.Log.Source.seen) c.args.workspace.now.work.now c.args.step in
    let part = file_part logs g.M.Log.Source.seen name c.in-Some.lines _ _ _ _ _ _ opened c.put_lines.ensures in
    text_stopped gives _ _ _ _ _ _ _ _ _ _ _ _ (c.new-log.ensures.masks ∙ c.take_masks.ensures.masks) c.put_lines.ensures part c.in_err-put_lines.was
    c.from_residual-in_err-put_lines.ensures.0

pub returns-then-not-branch : goal.returns-then-not-branch
returns-then-not-branch g c =
    let logs = g.M.Machine.logs in
    let name = log_file c.args.workspace.now.work.now c.args.step.0 c.args.step.1 in
    let opened : logs (Some c.in-Some.lines) name = subst (λ found. logs found name) c.in-Some.is c.in_ok-lines.ensures in
    let gives = in_folder (files_of g.M.Machine.logs g.M.Log.Source.seen) c.args.workspace.now.work.now c.args.step in
    let part = file_part logs g.M.Log.Source.seen name c.in-Some.lines _ _ _ _ _ _ opened c.put_lines.ensures in
    text_cut gives _ _ _ _ _ _ (added_by (get nat_eq c.take_masks.new.added)) _ _ _ (c.new-log.ensures.masks ∙ c.take_masks.ensures.masks) c.put_lines.ensures part
    (c.in_ok-put_lines.was ∙ ap Ok c.if-not-branch.true)

pub returns-in_err-keep_masks : goal.returns-in_err-keep_masks
returns-in_err-keep_masks g c =
    let logs = g.M.Machine.logs in
    let name = log_file c.args.workspace.now.work.now c.args.step.0 c.args.step.1 in
    let opened : logs (Some c.in-Some.lines) name = subst (λ found. logs found name) c.in-Some.is c.in_ok-lines.ensures in
    let gives = in_folder (files_of g.M.Machine.logs g.M.Log.Source.seen) c.args.workspace.now.work.now c.args.step in
    let part = file_part logs g.M.Log.Source.seen name c.in-Some.lines _ _ _ _ _ _ opened c.put_lines.ensures in
    text_kept_not gives _ _ _ _ _ _ _ _ _ _ _ (c.new-log.ensures.masks ∙ c.take_masks.ensures.masks) c.put_lines.ensures part
    (c.in_ok-put_lines.was ∙ ap Ok c.if-not-branch.false) c.from_residual-in_err-keep_masks.ensures.0

pub returns : goal.returns
returns g c =
    let logs = g.M.Machine.logs in
    let name = log_file c.args.workspace.now.work.now c.args.step.0 c.args.step.1 in
    let opened : logs (Some c.in-Some.lines) name = subst (λ found. logs found name) c.in-Some.is c.in_ok-lines.ensures in
    let gives = in_folder (files_of g.M.Machine.logs g.M.Log.Source.seen) c.args.workspace.now.work.now c.args.step in
    let leg = c.args.step.0 in
    let rest = added_by (get nat_eq c.take_masks.new.added) in
    let whole = c.in_ok-put_lines.was ∙ ap Ok c.if-not-branch.false in
    text_put gives _ _ _ _ _ _ rest _ _ _ _ (c.new-log.ensures.masks ∙ c.take_masks.ensures.masks) c.take_masks.ensures.others
    (λ l. c.in_ok-keep_masks.ensures l ∙ ap (λ (ms : List (List ℕ)). if l == leg then ms else rest l) c.into_masks.ensures)
    c.put_lines.ensures (file_whole logs g.M.Log.Source.seen name c.in-Some.lines _ _ _ _ _ _ opened c.requires whole c.put_lines.ensures) whole
