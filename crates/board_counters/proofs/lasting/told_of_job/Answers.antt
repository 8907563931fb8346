use Rattle.board_counters.specs.Words.{AreCallsOf}
use Rattle.board_counters.proofs.Placed.{zip-more}
use Rattle.board_counters.proofs.lasting.told_of_job.Goals as goal

pub loop-step-preserved : goal.loop-step-preserved
loop-step-preserved c =
    zip-more (AreCallsOf c.args.run.now c.args.job.now) c.as_slice-steps.result.now c.loop-step.step-index c.step-item.result c.calls_of.result c.loop-step.calls.items c.push.new.self.items c.loop-step-test.true c.step-item.is
    c.in_ok-push.ensures.items (c.calls_of.ensures c.args.run.now c.args.job.now c.has_own_env-own_env.ensures) c.loop-step.invariant
