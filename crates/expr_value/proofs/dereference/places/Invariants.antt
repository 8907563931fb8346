use Rattle.std.proofs.Common.{◌≡◌, drop}
use Rattle.expr_value.specs.Seen.{items_seen}
use Rattle.expr_value.specs.Stepping.{places_in, step_seen}
use Rattle.expr_value.proofs.Fronts.{with_front}
use Rattle.expr_value.proofs.dereference.places.Given as goal

-- what was found and what is left are all
abbrev pub invariant-loop-item : goal.invariant-loop-item
invariant-loop-item l = with_front (items_seen l.found.items) (places_in (step_seen l.step) (items_seen (drop l.item-index l.items))) ≡ places_in (step_seen l.step) (items_seen l.items)
