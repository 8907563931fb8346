use Rattle.ready_queue.proofs.Whole.{alone_in_order}
use Rattle.ready_queue.proofs.laws.alone_in_order.Goals as goal

pub returns : goal.returns
returns c = alone_in_order
