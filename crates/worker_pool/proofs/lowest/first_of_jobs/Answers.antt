use Rattle.worker_pool.proofs.Firsts.{job_found, job_passed}
use Rattle.worker_pool.proofs.lowest.first_of_jobs.Goals as goal

pub returns-in-Some-clause-found : goal.returns-in-Some-clause-found
returns-in-Some-clause-found c =
    job_found c.args.jobs.now c.loop-job.job-index c.job-item.result c.as_slice-legs.result.now c.args.before c.loop-job.number c.in-Some.found
    c.loop-job-test.true c.job-item.is c.as_slice-legs.ensures c.loop-job.invariant.0 c.in-Some.ensures

pub loop-job-preserved : goal.loop-job-preserved
loop-job-preserved c =
    job_passed c.args.jobs.now c.loop-job.job-index c.job-item.result c.as_slice-legs.result.now c.args.before c.loop-job.number
    c.loop-job-test.true c.job-item.is c.as_slice-legs.ensures c.loop-job.invariant c.in-None.ensures
