use Rattle.std.proofs.Common.{◌≡◌, take, map}
use Rattle.board_counters.specs.Words.{untold_legs}
use Rattle.board_counters.proofs.stopping.legs_of_each.Given as goal

abbrev pub invariant-loop-run : goal.invariant-loop-run
invariant-loop-run l = l.made.items ≡ map untold_legs (take l.run-index l.runs)
