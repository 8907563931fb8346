use Rattle.std.proofs.Common.{◌<◌, ◌∙◌, length, arith, rules}
use Rattle.plan_assembler.proofs.Orders.{stage_pushed, all_pushed}
use Rattle.plan_assembler.proofs.order.by_stage.Goals as goal

pub loop-stage-preserved : goal.loop-stage-preserved
loop-stage-preserved c =
    let left : c.loop-stage.stage < length c.args.stages.now = search rules in
    stage_pushed c.loop-stage.order.items _ c.push_stage.new.order.items c.args.stages.now (length c.args.stages.now) c.loop-stage.stage left c.loop-stage.invariant c.in_ok-push_stage.ensures

pub returns-then-last-stage : goal.returns-then-last-stage
returns-then-last-stage c =
    c.new.ensures ∙ all_pushed c.loop-stage.order.items _ c.args.stages.now _ c.loop-stage.stage (λ j. omega (arith, c.greatest-last.ensures j)) c.loop-stage.invariant
