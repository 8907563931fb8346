use Rattle.board_counters.specs.Words.{TellsSteps}
use Rattle.board_counters.proofs.Placed.{zip-more}
use Rattle.board_counters.proofs.lasting.told_of_run.Goals as goal

pub loop-job-preserved : goal.loop-job-preserved
loop-job-preserved c =
    zip-more (TellsSteps c.args.run.now) c.as_slice-jobs.result.now c.loop-job.job-index c.job-item.result c.in_ok-told_of_job.field-0 c.loop-job.calls.items c.push.new.self.items c.loop-job-test.true c.job-item.is c.in_ok-push.ensures.items
    c.in_ok-told_of_job.ensures c.loop-job.invariant
