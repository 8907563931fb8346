use Rattle.plan_assembler.proofs.Stagings.{list_next}
use Rattle.plan_assembler.proofs.staging.lists.Goals as goal

pub loop-stage-preserved : goal.loop-stage-preserved
loop-stage-preserved c =
    list_next c.loop-stage.lists.items c.push.new.self.items _ c.in_ok-in_stage.field-0 c.args.count c.loop-stage.stage c.args.found.now c.args.jobs.now c.loop-stage-test.true c.loop-stage.invariant c.in_ok-push.ensures.items c.in_ok-in_stage.ensures
