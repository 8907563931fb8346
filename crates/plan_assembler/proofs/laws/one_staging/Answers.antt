use Rattle.plan_assembler.proofs.Cycles.{one_staging as proof}
use Rattle.plan_assembler.proofs.laws.one_staging.Goals as goal

pub returns : goal.returns
returns c = proof
