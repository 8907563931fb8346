use Rattle.plan_assembler.proofs.Whole.{order_is_whole as proof}
use Rattle.plan_assembler.proofs.laws.order_is_whole.Goals as goal

pub returns : goal.returns
returns c = proof
