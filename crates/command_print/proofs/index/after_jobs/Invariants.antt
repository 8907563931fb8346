use Rattle.std.proofs.Common.{◌≡◌, ◌+◌, drop}
use Rattle.plan_text.specs.BoardText.{legs_count}
use Rattle.command_print.proofs.index.after_jobs.Given as goal

abbrev pub invariant-loop-job : goal.invariant-loop-job
invariant-loop-job l = l.leg + legs_count (drop l.job-index l.jobs) ≡ l.first.1 + legs_count l.jobs
