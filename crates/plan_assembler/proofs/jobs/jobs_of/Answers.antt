use Rattle.std.proofs.Common.{◌≤◌, length, rules}
use Rattle.plan_assembler.proofs.JobSteps.{begin_jobs, next_job, job_fails, all_jobs}
use Rattle.plan_assembler.proofs.jobs.jobs_of.Goals as goal

pub returns-in-Err : goal.returns-in-Err
returns-in-Err c =
    rw (← c.as_slice-places.ensures) (job_fails c.args.jobs.now c.as_slice-places.result.now c.args.numbering.now.first c.loop-place.place-index _ c.loop-place.plans.items c.in-Err.fault c.loop-place-test.true (search rules) c.loop-place.invariant c.in-Err.ensures)

pub loop-place-preserved : goal.loop-place-preserved
loop-place-preserved c =
    next_job c.args.jobs.now c.as_slice-places.result.now c.args.numbering.now.first c.loop-place.place-index _ c.loop-place.plans.items c.push_job.new.plans.items c.loop-place-test.true (search rules) c.loop-place.invariant
    (rw (← c.as_slice-places.ensures) at c.in_default.ensures)

pub loop-place-init : goal.loop-place-init
loop-place-init c = begin_jobs c.args.jobs.now c.as_slice-places.result.now c.args.numbering.now.first c.new-plans.result.items c.new-plans.ensures.items

pub returns : goal.returns
returns c =
    let places = c.as_slice-places.result.now in
    let past : length places ≤ c.loop-place.place-index = search rules in
    rw (c.new.ensures, ← c.as_slice-places.ensures) (all_jobs c.args.jobs.now places c.args.numbering.now.first c.loop-place.place-index c.loop-place.plans.items past c.loop-place.invariant)
