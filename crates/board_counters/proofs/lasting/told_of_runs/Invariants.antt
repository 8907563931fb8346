use Rattle.std.proofs.Common.{take}
use Rattle.board_counters.specs.Words.{TellsRuns}
use Rattle.board_counters.proofs.lasting.told_of_runs.Given as goal

abbrev pub invariant-loop-run : goal.invariant-loop-run
invariant-loop-run l = TellsRuns (take l.run-index l.runs) l.calls.items
