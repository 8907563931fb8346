use Rattle.plan_assembler.proofs.NeedNumbers.{needs_are_named as proof}
use Rattle.plan_assembler.proofs.laws.needs_are_named.Goals as goal

pub returns : goal.returns
returns c = proof
