use Rattle.flow_model.specs.Rules.{jobs_rules}
use Rattle.flow_model.proofs.rules.check_jobs_of_run.Goals as goal

pub returns : goal.returns
returns c = c.under.ensures (jobs_rules c.args.first 0 c.args.jobs.now) c.check_jobs.ensures
