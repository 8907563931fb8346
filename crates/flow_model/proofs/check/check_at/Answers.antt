use Rattle.flow_model.proofs.check.check_at.Goals as goal

pub returns : goal.returns
returns g c = c.at_place.ensures.checks (g.R.Rules.rules c.args.part.now) c.check.ensures
