use Rattle.std.proofs.Common.{take}
use Rattle.board_counters.specs.Words.{AllZip, TellsSteps}
use Rattle.board_counters.proofs.lasting.told_of_run.Given as goal

abbrev pub invariant-loop-job : goal.invariant-loop-job
invariant-loop-job l = AllZip (TellsSteps l.run) (take l.job-index l.jobs) l.calls.items
