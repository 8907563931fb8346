use Rattle.ready_queue.proofs.Moves.{closes}
use Rattle.ready_queue.proofs.Houses.{of_queue}
use Rattle.ready_queue.proofs.Counts.{closed}
use Rattle.ready_queue.proofs.queue.HouseQueue.close.Goals as goal

pub learn_as-requires-clause-rule : goal.learn_as-requires-clause-rule
learn_as-requires-clause-rule g c = of_queue _ _ _ _ (closes _ _)

pub returns : goal.returns
returns g c = closed _ c.learn_as.ensures.rule.0 c.args.pass.tally c.args.pass.counts c.requires.whole c.learn_as.ensures.rule.1
