use Rattle.plan_assembler.proofs.Cycles.{falls_by as proof}
use Rattle.plan_assembler.proofs.laws.needs_fall.Goals as goal

pub returns : goal.returns
returns c = proof
