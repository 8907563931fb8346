use Rattle.flow_model.specs.Rules.{run_rules}
use Rattle.flow_model.proofs.rules.check_run_at.Goals as goal

pub returns-clause-checks : goal.returns-clause-checks
returns-clause-checks c = c.at_place.ensures.checks (run_rules c.args.first c.args.run.now) c.check_run.ensures.checks
