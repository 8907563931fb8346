use Rattle.std.proofs.Common.{inl, inr}
use Rattle.plan_assembler.specs.Refusals.{JobFails, MatrixFails, TextFails}
use Rattle.plan_assembler.specs.Texts.{of_job}
use Rattle.plan_assembler.specs.declared.fault.FaultPlace.TheVariants as place
use Rattle.plan_assembler.proofs.Answering.{answered_weaker}
use Rattle.plan_assembler.proofs.jobs.tested_legs.Goals as goal

pub returns-in-Err-job_texts : goal.returns-in-Err-job_texts
returns-in-Err-job_texts c =
    let job = c.args.job.now in
    answered_weaker (TextFails (place.Job c.args.number) (of_job job)) (JobFails c.args.number job) c.at_place.result (λ g r. inr (c.in-Ok.ensures.0, r))
    (c.at_place.ensures (of_job job) c.in-Err-job_texts.ensures)

pub returns-in-Err : goal.returns-in-Err
returns-in-Err c =
    let job = c.args.job.now in
    answered_weaker (MatrixFails c.args.number job.matrix) (JobFails c.args.number job) c.no_legs.result (λ g r. inl r) (c.no_legs.ensures job.matrix c.in-Err.ensures)
