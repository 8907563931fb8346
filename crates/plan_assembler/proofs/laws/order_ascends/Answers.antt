use Rattle.plan_assembler.proofs.JobOrder.{jobs_ascend as proof}
use Rattle.plan_assembler.proofs.laws.order_ascends.Goals as goal

pub returns : goal.returns
returns c = proof
