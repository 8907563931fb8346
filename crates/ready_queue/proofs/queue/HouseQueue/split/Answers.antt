use Rattle.ready_queue.proofs.Houses.{house_splits}
use Rattle.ready_queue.proofs.Sharing.{names_split}
use Rattle.ready_queue.proofs.queue.HouseQueue.split.Goals as goal

pub another-other-requires-clause-rule : goal.another-other-requires-clause-rule
another-other-requires-clause-rule g c = house_splits _ _ _ c.args.pass.live c.requires.house

pub returns-clause-names : goal.returns-clause-names
returns-clause-names g c = names_split _ _ _ c.another-other.ensures.rule.0 c.another-other.ensures.rule.1
