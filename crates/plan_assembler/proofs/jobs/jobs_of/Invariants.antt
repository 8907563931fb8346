use Rattle.plan_assembler.proofs.JobSteps.{GoingJobs}
use Rattle.plan_assembler.proofs.jobs.jobs_of.Given as goal

abbrev pub invariant-loop-place : goal.invariant-loop-place
invariant-loop-place l = GoingJobs l.jobs l.places l.numbering.first l.place-index l.plans.items
