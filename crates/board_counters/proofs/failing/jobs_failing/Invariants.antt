use Rattle.std.proofs.Common.{◌≡◌, take, map}
use Rattle.board_counters.specs.Words.{job_failing}
use Rattle.board_counters.proofs.failing.jobs_failing.Given as goal

abbrev pub invariant-loop-job : goal.invariant-loop-job
invariant-loop-job l = l.made.items ≡ map job_failing (take l.job-index l.jobs)
