use Rattle.std.proofs.Common.{◌≡◌, ◌++◌, map}
use Rattle.board_decisions.specs.Places.{leg_of, numbers}
use Rattle.board_decisions.proofs.places.add_legs.Given as goal

abbrev pub invariant-loop-leg : goal.invariant-loop-leg
invariant-loop-leg l = l.places.items ≡ l.initial.places.items ++ map (leg_of l.run l.job) (numbers l.leg)
