use Rattle.std.proofs.Common.{◌≡◌, take, map}
use Rattle.board_counters.specs.Words.{tally_of}
use Rattle.board_counters.proofs.counts.tally_runs.Given as goal

abbrev pub invariant-loop-run : goal.invariant-loop-run
invariant-loop-run l = l.tallies.items ≡ map (λ run. map tally_of run.jobs) (take l.run-index l.runs)
