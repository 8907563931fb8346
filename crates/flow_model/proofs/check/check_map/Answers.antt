use Rattle.flow_model.specs.Found.{each_pair}
use Rattle.flow_model.proofs.check.check_map.Goals as goal

pub returns : goal.returns
returns g c = c.under.ensures (each_pair g.T.PairTest.test c.args.pairs.now) c.check_pairs.ensures
