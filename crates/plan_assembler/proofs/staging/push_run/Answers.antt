use Rattle.flow_model.specs.declared.plan.JobPlan.{JobPlan}
use Rattle.plan_assembler.proofs.Stagings.{mapped_next}
use Rattle.plan_assembler.proofs.staging.push_run.Goals as goal

pub loop-job-preserved : goal.loop-job-preserved
loop-job-preserved c =
    mapped_next (λ (job : JobPlan). (c.args.run, job.number)) c.loop-job.list.items c.push.new.self.items _ c.as_slice-jobs.result.now c.loop-job.job-index c.job-item.result c.loop-job-test.true c.job-item.is c.in_ok-push.ensures.items c.loop-job.invariant
