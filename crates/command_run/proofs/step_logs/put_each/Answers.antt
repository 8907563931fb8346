use Rattle.std.proofs.Common.{Ok, ap, ◌∙◌, rules}
use Rattle.command_run.specs.StepLogs.{files_of, in_folder}
use Rattle.command_run.proofs.Telling.{files_begun, none_told, step_begun, step_cut, step_told, steps_told}
use Rattle.command_run.proofs.step_logs.put_each.Goals as goal

pub loop-step-init : goal.loop-step-init
loop-step-init g c = none_told _ _ _ _ (λ leg. search rules)

pub returns-in_err-put_log : goal.returns-in_err-put_log
returns-in_err-put_log g c =
    let files = files_of g.M.Machine.logs g.M.Log.Source.seen in
    let work = c.args.workspace.now.work.now in
    step_begun (in_folder files work) _ c.args.steps.now c.loop-step.step-index _ _ _ _ _ _ _ _ _ (files_begun g.M.Machine.logs g.M.Log.Source.seen work)
    c.loop-step-test.true c.loop-step.invariant c.put_log.ensures c.in_err-put_log.was c.from_residual.ensures.0

pub returns-then-not-branch : goal.returns-then-not-branch
returns-then-not-branch g c =
    let files = files_of g.M.Machine.logs g.M.Log.Source.seen in
    let work = c.args.workspace.now.work.now in
    step_cut (in_folder files work) _ c.args.steps.now c.loop-step.step-index _ _ _ _ _ _ _ (files_begun g.M.Machine.logs g.M.Log.Source.seen work)
    c.loop-step-test.true c.loop-step.invariant c.put_log.ensures (c.in_ok-put_log.was ∙ ap Ok c.if-not-branch.true)

pub loop-step-preserved : goal.loop-step-preserved
loop-step-preserved g c =
    let files = files_of g.M.Machine.logs g.M.Log.Source.seen in
    let work = c.args.workspace.now.work.now in
    step_told (in_folder files work) _ c.args.steps.now c.loop-step.step-index _ _ _ _ _ _ _ c.loop-step-test.true c.loop-step.invariant c.put_log.ensures
    (c.in_ok-put_log.was ∙ ap Ok c.if-not-branch.false)

pub returns : goal.returns
returns g c = steps_told _ _ c.args.steps.now c.loop-step.step-index _ _ _ c.loop-step-test.false c.loop-step.invariant
