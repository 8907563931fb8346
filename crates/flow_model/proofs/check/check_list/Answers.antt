use Rattle.flow_model.specs.Found.{each}
use Rattle.flow_model.proofs.check.check_list.Goals as goal

pub returns : goal.returns
returns g c = c.under.ensures (each g.R.Rules.rules 0 c.args.parts.now) c.check_each.ensures
