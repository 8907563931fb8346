use Rattle.std.proofs.Common.{◌≡◌, take, map}
use Rattle.board_counters.specs.Words.{run_failing}
use Rattle.board_counters.proofs.failing.runs_failing.Given as goal

abbrev pub invariant-loop-run : goal.invariant-loop-run
invariant-loop-run l = l.made.items ≡ map run_failing (take l.run-index l.runs)
