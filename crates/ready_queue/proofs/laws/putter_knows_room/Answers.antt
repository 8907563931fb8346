use Rattle.ready_queue.proofs.Lone.{putter_knows, putter_stays}
use Rattle.ready_queue.proofs.laws.putter_knows_room.Goals as goal

pub returns : goal.returns
returns c = record { knows = putter_knows; stays = putter_stays }
