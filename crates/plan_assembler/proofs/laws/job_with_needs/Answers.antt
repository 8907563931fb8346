use Rattle.plan_assembler.proofs.JobNeeds.{job_with_needs as proof}
use Rattle.plan_assembler.proofs.laws.job_with_needs.Goals as goal

pub returns : goal.returns
returns c = proof
