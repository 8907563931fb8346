use Rattle.ready_queue.proofs.Lone.{taker_knows, taker_stays}
use Rattle.ready_queue.proofs.laws.taker_knows_tickets.Goals as goal

pub returns : goal.returns
returns c = record { knows = taker_knows; stays = taker_stays }
