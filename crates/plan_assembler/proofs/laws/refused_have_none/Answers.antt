use Rattle.plan_assembler.proofs.Planned.{refused_none as proof}
use Rattle.plan_assembler.proofs.laws.refused_have_none.Goals as goal

pub returns : goal.returns
returns c = proof
