use Rattle.ready_queue.specs.Passes.{capacity_of}
use Rattle.ready_queue.proofs.queue.HouseQueue.put.Given as goal

abbrev pub ghosts-put_within : goal.ghosts-put_within
ghosts-put_within g a = record { room = capacity_of a.self.now }
