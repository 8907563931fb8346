use Rattle.ready_queue.proofs.Moves.{begins}
use Rattle.ready_queue.proofs.queue.HouseQueue.new.Goals as goal

pub ruled-requires-clause-rule : goal.ruled-requires-clause-rule
ruled-requires-clause-rule g c = (begins, c.requires.house)
