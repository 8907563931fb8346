use Rattle.plan_assembler.proofs.LegsAlone.{legs_alone as proof}
use Rattle.plan_assembler.proofs.laws.legs_alone_are_left.Goals as goal

pub returns : goal.returns
returns c = proof
