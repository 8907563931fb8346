use Rattle.plan_assembler.proofs.Cycles.{no_cycle as proof}
use Rattle.plan_assembler.proofs.laws.no_stages_in_cycles.Goals as goal

pub returns : goal.returns
returns c = proof
