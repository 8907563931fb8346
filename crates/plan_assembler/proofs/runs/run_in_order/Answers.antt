use Rattle.std.proofs.Common.{inr}
use Rattle.plan_assembler.specs.Layout.{at_places}
use Rattle.plan_assembler.specs.Refusals.{RunFails, TakenFail}
use Rattle.plan_assembler.proofs.Answering.{answered_weaker}
use Rattle.plan_assembler.proofs.runs.run_in_order.Goals as goal

pub returns-in-Err : goal.returns-in-Err
returns-in-Err c =
    let w = c.args.source.now.workflow.now in
    answered_weaker (TakenFail w c.args.run c.args.numbering.now.first (at_places w.jobs c.args.numbering.now.order.now)) (RunFails c.args.source.now.choice.now w c.args.run c.args.numbering.now.first) c.in-Err.fault
    (λ g x. inr (c.args.numbering.now.order.now, (c.requires.needs, x))) c.in-Err.ensures
