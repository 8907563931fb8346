use Rattle.plan_assembler.proofs.Stagings.{run_jobs_next}
use Rattle.plan_assembler.proofs.staging.run_jobs.Goals as goal

pub loop-run-preserved : goal.loop-run-preserved
loop-run-preserved c =
    run_jobs_next c.loop-run.list.items c.push_run.new.list.items _ c.as_slice-runs.result.now c.loop-run.run c.index-runs-run.result c.loop-run-test.true c.index-runs-run.is c.loop-run.invariant c.in_ok-push_run.ensures
