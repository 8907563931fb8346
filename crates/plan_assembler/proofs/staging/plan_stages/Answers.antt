use Rattle.plan_assembler.proofs.Stagings.{runs_next}
use Rattle.plan_assembler.proofs.staging.plan_stages.Goals as goal

pub loop-run-preserved : goal.loop-run-preserved
loop-run-preserved c = record {
  found = runs_next c.loop-run.found.items c.push_jobs.new.found.items c.as_slice-runs.result.now c.loop-run.run-index c.run-item.result _ c.loop-run-test.true c.run-item.is c.loop-run.invariant.found c.in_ok-push_jobs.ensures.ok;
  bounded = c.in_ok-push_jobs.ensures.bounded;
}
