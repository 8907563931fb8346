use Rattle.std.proofs.Common.{◌≡◌, ◌+◌, ◌++◌, drop}
use Rattle.why_causes.specs.Causes.{asked}
use Rattle.why_causes.specs.declared.question.Question.TheVariants as Question
use Rattle.command_why.specs.Roots.{job_is_asked}
use Rattle.command_why.proofs.roots.add_run_jobs.Given as goal

abbrev pub invariant-loop-job : goal.invariant-loop-job
invariant-loop-job l = record {
  left : l.out.items ++ asked Question.Job l.number (job_is_asked l.run) (drop l.job-index l.jobs)
      ≡ l.initial.out.items ++ asked Question.Job l.first (job_is_asked l.run) l.jobs;
  number : l.number ≡ l.first + l.job-index;
}
