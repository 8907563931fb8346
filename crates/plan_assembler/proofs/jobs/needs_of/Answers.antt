use Rattle.plan_assembler.proofs.IdPlaces.{places_bounded}
use Rattle.plan_assembler.proofs.jobs.needs_of.Goals as goal

pub numbers_of-requires-clause-within : goal.numbers_of-requires-clause-within
numbers_of-requires-clause-within c =
    rw c.as_slice.ensures (places_bounded c.args.jobs.now c.args.needs.now c.in_ok-places.places c.in_ok-places.ensures)
