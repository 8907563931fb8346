use Rattle.std.proofs.Common.{◌≡◌, map, take}
use Rattle.board_settled.specs.Words.{quiet_run}
use Rattle.board_settled.proofs.quiet.quiet_runs.Given as goal

-- the runs so far
abbrev pub invariant-loop-run : goal.invariant-loop-run
invariant-loop-run l = l.made ≡ map quiet_run (take l.run-index l.runs)
