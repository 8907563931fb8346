use Rattle.plan_assembler.proofs.OnePlan.{one_plan as proof}
use Rattle.plan_assembler.proofs.laws.one_plan.Goals as goal

pub returns : goal.returns
returns c = proof
