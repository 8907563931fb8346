use Rattle.std.proofs.Common.{subst, arith}
use Rattle.crossbeam_queue.specs.Fifo.{Pushes}
use Rattle.crossbeam_queue.specs.Passes.{view, ruled_capacity}
use Rattle.ready_queue.specs.Steps.{Puts}
use Rattle.ready_queue.proofs.Houses.{Both, house_puts, house_goes}
use Rattle.ready_queue.proofs.queue.HouseQueue.put_within.Goals as goal

pub push_as-requires-clause-rule : goal.push_as-requires-clause-rule
push_as-requires-clause-rule g c =
    let holds = g.H.HouseRule.holds in
    let n = ruled_capacity c.args.self.now.tickets in
    let v = view c.args.seat.now in
    let x = c.args.ticket in
    (subst (λ room. Pushes (Both holds) n c.args.seat.now.id v x (Puts room v x)) c.requires.room (house_puts holds n c.args.seat.now.id v x c.requires.live (omega arith) c.requires.house), house_goes holds _ _)
