use Rattle.board_counters.specs.Words.{TellsJobs}
use Rattle.board_counters.proofs.Placed.{zip-more}
use Rattle.board_counters.proofs.lasting.told_of_runs.Goals as goal

pub loop-run-preserved : goal.loop-run-preserved
loop-run-preserved c =
    zip-more TellsJobs c.args.runs.now c.loop-run.run-index c.run-item.result c.in_ok-told_of_run.field-0 c.loop-run.calls.items c.push.new.self.items c.loop-run-test.true c.run-item.is c.in_ok-push.ensures.items
    c.in_ok-told_of_run.ensures c.loop-run.invariant
