use Rattle.std.proofs.Common.{◌≡◌, ◌+◌, take}
use Rattle.flow_model.specs.Rules.{legs_of_jobs}
use Rattle.flow_model.proofs.rules.room_after_jobs.Given as goal

abbrev pub invariant-loop-job : goal.invariant-loop-job
invariant-loop-job l = l.left + legs_of_jobs (take l.job-index l.jobs) ≡ l.room
