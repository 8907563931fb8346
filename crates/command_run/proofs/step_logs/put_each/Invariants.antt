use Rattle.std.proofs.Common.{nat_eq, take}
use Rattle.std.specs.HashMap.{get}
use Rattle.command_run.specs.StepLogs.{added_by, files_of, in_folder}
use Rattle.command_run.proofs.Telling.{ToldSoFar}
use Rattle.command_run.proofs.step_logs.put_each.Given as goal

-- the logs of the steps so far were told
abbrev pub invariant-loop-step : goal.invariant-loop-step
invariant-loop-step g l =
    ToldSoFar (in_folder (files_of g.M.Machine.logs g.M.Log.Source.seen) l.workspace.work.now) l.given (take l.step-index l.steps) (added_by (get nat_eq l.added))
    (g.O.Sink.seen l.fn.out) (g.O.Sink.seen l.out)
