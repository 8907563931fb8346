use Rattle.std.proofs.Common.{◌≡◌, ◌++◌, map, drop}
use Rattle.board_counters.specs.Words.{run_tally}
use Rattle.board_counters.proofs.counts.tally_each_run.Given as goal

abbrev pub invariant-loop-place : goal.invariant-loop-place
invariant-loop-place l = l.made.items ++ map run_tally (drop l.place l.runs) ≡ map run_tally l.runs
