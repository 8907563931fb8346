use Rattle.std.proofs.Common.{◌≡◌, take, map}
use Rattle.board_counters.specs.Words.{leg_failing}
use Rattle.board_counters.proofs.failing.legs_failing.Given as goal

abbrev pub invariant-loop-leg : goal.invariant-loop-leg
invariant-loop-leg l = l.made.items ≡ map leg_failing (take l.leg-index l.legs)
