use Rattle.std.proofs.Common.{◌≡◌, ◌+◌, ◌++◌, drop}
use Rattle.command_why.specs.Roots.{legs_count, legs_left}
use Rattle.command_why.proofs.roots.add_jobs_legs.Given as goal

abbrev pub invariant-loop-job : goal.invariant-loop-job
invariant-loop-job l = record {
  left : l.out.items ++ legs_left l.next (drop l.job-index l.jobs) ≡ l.initial.out.items ++ legs_left l.first l.jobs;
  legs : l.next + legs_count (drop l.job-index l.jobs) ≡ l.first + legs_count l.jobs;
}
