use Rattle.std.proofs.Common.{◌≡◌, ◌++◌, drop, get_or, false}
use Rattle.std.specs.List.{filter}
use Rattle.plan_assembler.proofs.order.kept.Given as goal

abbrev pub invariant-loop-place : goal.invariant-loop-place
invariant-loop-place l = l.order.items ++ filter (λ j. get_or l.chosen j false) (drop l.place-index l.places) ≡ filter (λ j. get_or l.chosen j false) l.places
