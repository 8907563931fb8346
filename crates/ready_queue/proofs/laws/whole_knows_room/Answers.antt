use Rattle.ready_queue.proofs.Lawful.{whole_puts, whole_takes}
use Rattle.ready_queue.proofs.laws.whole_knows_room.Goals as goal

pub returns : goal.returns
returns c = record { puts = whole_puts; takes = whole_takes }
