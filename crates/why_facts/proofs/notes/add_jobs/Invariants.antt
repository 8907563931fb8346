use Rattle.std.proofs.Common.{◌≡◌, drop}
use Rattle.why_facts.proofs.notes.add_jobs.Given as goal
use Rattle.why_facts.specs.Notes.{jobs_added}

abbrev pub invariant-loop-job : goal.invariant-loop-job
invariant-loop-job l = jobs_added l.notes (drop l.job-index l.jobs) ≡ jobs_added l.initial.notes l.jobs
