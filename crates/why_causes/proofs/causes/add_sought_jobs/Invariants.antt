use Rattle.std.proofs.Common.{◌≡◌, ◌++◌, drop}
use Rattle.why_causes.specs.Causes.{asked, job_sought}
use Rattle.why_causes.specs.declared.question.Question.TheVariants as Question
use Rattle.why_causes.proofs.causes.add_sought_jobs.Given as goal

abbrev pub invariant-loop-job : goal.invariant-loop-job
invariant-loop-job l =
    l.out.items ++ asked Question.Job l.number (job_sought l.wanted l.run) (drop l.job-index l.jobs)
    ≡ l.initial.out.items ++ asked Question.Job l.first (job_sought l.wanted l.run) l.jobs
