use Rattle.std.proofs.Common.{◌≡◌, [], take, map}
use Rattle.board_counters.proofs.dependents.nobody.Given as goal

abbrev pub invariant-loop-job : goal.invariant-loop-job
invariant-loop-job l = l.made.items ≡ map (λ job. []) (take l._job-index l.jobs)
