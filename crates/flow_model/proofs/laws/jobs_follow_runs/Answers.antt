use Rattle.flow_model.proofs.JobNumbers.{jobs_follow}
use Rattle.flow_model.proofs.laws.jobs_follow_runs.Goals as goal

pub returns : goal.returns
returns c = λ p. jobs_follow p.runs
