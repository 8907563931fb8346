use Rattle.flow_model.specs.Rules.{runs_rules}
use Rattle.flow_model.proofs.rules.check_runs_of_plan.Goals as goal

pub returns : goal.returns
returns c = c.under.ensures (runs_rules 0 0 c.args.runs.now) c.check_runs.ensures
