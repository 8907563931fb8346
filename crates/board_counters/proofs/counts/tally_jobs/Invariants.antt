use Rattle.std.proofs.Common.{◌≡◌, take, map}
use Rattle.board_counters.specs.Words.{tally_of}
use Rattle.board_counters.proofs.counts.tally_jobs.Given as goal

abbrev pub invariant-loop-job : goal.invariant-loop-job
invariant-loop-job l = l.tallies.items ≡ map tally_of (take l.job-index l.jobs)
