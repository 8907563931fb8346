use Rattle.flow_model.proofs.FoundLemmas.{each_stop}
use Rattle.flow_model.proofs.check.check_each.Goals as goal

pub returns-in-Err : goal.returns-in-Err
returns-in-Err g c =
    each_stop g.R.Rules.rules c.args.parts.now c.loop-place.place c.index-parts-place.result c.in-Err.broken c.loop-place.invariant c.loop-place-test.true c.index-parts-place.is c.in-Err.ensures
