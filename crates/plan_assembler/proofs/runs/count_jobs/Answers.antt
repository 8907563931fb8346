use Rattle.std.proofs.Common.{arith, rules}
use Rattle.plan_assembler.proofs.JobSteps.{count_next}
use Rattle.plan_assembler.proofs.runs.count_jobs.Goals as goal

pub loop-place-preserved : goal.loop-place-preserved
loop-place-preserved c =
    let next = count_next c.args.jobs.now c.as_slice-places.result.now c.loop-place.place-index _ c.count_at-count.result c.loop-place-test.true (search rules) c.count_at-count.ensures.count in
    (omega (arith, c.loop-place.invariant.0), omega (arith, c.loop-place.invariant.1, c.count_at-count.ensures.few))
