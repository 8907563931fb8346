use Rattle.std.proofs.Common.{◌+◌}
use Rattle.flow_model.specs.Rules.{job_rules}
use Rattle.flow_model.proofs.rules.check_job_at.Goals as goal

pub returns : goal.returns
returns c = c.at_place.ensures.checks (job_rules c.args.first (c.args.first + c.args.place) c.args.job.now) c.check_job.ensures
