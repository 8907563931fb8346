use Rattle.ready_queue.proofs.Lawful.{taken_in_order, none_taken_twice}
use Rattle.ready_queue.proofs.laws.taken_was_put.Goals as goal

pub returns : goal.returns
returns c = record { order = taken_in_order; bag = none_taken_twice }
