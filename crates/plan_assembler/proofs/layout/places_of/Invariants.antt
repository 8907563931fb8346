use Rattle.std.proofs.Common.{◌≡◌, take, map}
use Rattle.plan_assembler.specs.Layout.{ids_of, place_of}
use Rattle.plan_assembler.proofs.layout.places_of.Given as goal

abbrev pub invariant-loop-need : goal.invariant-loop-need
invariant-loop-need l = l.places.items ≡ map (place_of (ids_of l.jobs)) (take l.need-index l.needs)
