use Rattle.std.proofs.Common.{◌≡◌, ◌∙◌, Some, slice_get, ap, sym, rules}
use Rattle.std.specs.Option.{option_copied}
use Rattle.plan_assembler.proofs.JobSteps.{push_some, push_fails, push_none}
use Rattle.plan_assembler.proofs.jobs.push_job.Goals as goal

pub returns-in_ok-push-in-Ok : goal.returns-in_ok-push-in-Ok
returns-in_ok-push-in-Ok c =
    let at : slice_get c.args.jobs.now c.args.place ≡ Some c.in-Some.job.now = sym c.job_at.ensures ∙ ap option_copied c.in-Some.is in
    push_some c.args.jobs.now c.args.numbering.now.order.now c.args.numbering.now.first c.args.place c.args.plans.now.items c.push.new.self.items c.in-Some.job.now _ _ at (search rules) c.in-Ok.ensures c.in_ok-push-in-Ok.ensures.items

pub returns-in-Err : goal.returns-in-Err
returns-in-Err c =
    let at : slice_get c.args.jobs.now c.args.place ≡ Some c.in-Some.job.now = sym c.job_at.ensures ∙ ap option_copied c.in-Some.is in
    push_fails c.args.jobs.now c.args.numbering.now.first c.args.place c.args.plans.now.items c.in-Some.job.now _ _ at (search rules) c.in-Err.ensures

pub returns-in-None : goal.returns-in-None
returns-in-None c =
    push_none c.args.jobs.now c.args.numbering.now.order.now c.args.numbering.now.first c.args.place c.args.plans.now.items (sym c.job_at.ensures ∙ ap option_copied c.in-None.is)
