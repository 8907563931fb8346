use Rattle.std.proofs.Common.{inl}
use Rattle.plan_assembler.specs.Refusals.{NeedsFail, RunFails}
use Rattle.plan_assembler.proofs.Answering.{answered_weaker}
use Rattle.plan_assembler.proofs.runs.run_of.Goals as goal

pub returns : goal.returns
returns c =
    answered_weaker (NeedsFail c.args.source.now.workflow.now.jobs) (RunFails c.args.source.now.choice.now c.args.source.now.workflow.now c.args.run c.args.first) c.in-Err.fault (λ g x. inl x) c.in-Err.ensures.order
