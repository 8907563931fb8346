use Rattle.flow_model.proofs.check.check_under.Goals as goal

pub returns : goal.returns
returns g c = c.under.ensures (g.R.Rules.rules c.args.part.now) c.check.ensures
