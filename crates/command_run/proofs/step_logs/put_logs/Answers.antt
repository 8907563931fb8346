use Rattle.std.proofs.Common.{flat_map, ap, ◌∙◌}
use Rattle.command_run.specs.PlanMasks.{plan_masks}
use Rattle.command_run.specs.StepLogs.{files_of, in_folder, started_step}
use Rattle.command_run.proofs.Telling.{files_begun, logs_shown, none_shown}
use Rattle.command_run.proofs.step_logs.put_logs.Goals as goal

pub returns-in_err-masks : goal.returns-in_err-masks
returns-in_err-masks g c =
    let work = c.args.workspace.now.work.now in
    none_shown (in_folder (files_of g.M.Machine.logs g.M.Log.Source.seen) work) _ _ _ _ (files_begun g.M.Machine.logs g.M.Log.Source.seen work)
    c.from_residual.ensures.0

pub returns-in_err-steps : goal.returns-in_err-steps
returns-in_err-steps g c =
    let work = c.args.workspace.now.work.now in
    none_shown (in_folder (files_of g.M.Machine.logs g.M.Log.Source.seen) work) _ _ _ _ (files_begun g.M.Machine.logs g.M.Log.Source.seen work)
    c.from_residual-in_err-steps.ensures.0

pub returns : goal.returns
returns g c =
    let work = c.args.workspace.now.work.now in
    logs_shown (in_folder (files_of g.M.Machine.logs g.M.Log.Source.seen) work) _ _ _ _ _ _ _ (c.in_ok-masks.ensures ∙ ap plan_masks c.plan.ensures.same)
    (c.as_slice.ensures.value ∙ c.in_ok-steps.ensures
    ∙ ap (flat_map started_step) (c.records_are_counted.ensures c.args.plan.now c.args.history.now c.requires))
    c.put_each.ensures
