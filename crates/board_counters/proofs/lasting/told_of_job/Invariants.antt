use Rattle.std.proofs.Common.{take}
use Rattle.board_counters.specs.Words.{AllZip, AreCallsOf}
use Rattle.board_counters.proofs.lasting.told_of_job.Given as goal

abbrev pub invariant-loop-step : goal.invariant-loop-step
invariant-loop-step l = AllZip (AreCallsOf l.run l.job) (take l.step-index l.steps) l.calls.items
