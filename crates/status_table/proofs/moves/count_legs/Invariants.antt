use Rattle.std.proofs.Common.{◌≡◌, length, take, sum_by}
use Rattle.status_table.proofs.moves.count_legs.Given as goal

abbrev pub invariant-loop-run : goal.invariant-loop-run
invariant-loop-run l = l.count ≡ sum_by (λ run. sum_by (λ job. length job.legs) run.jobs) (take l.run-index l.runs)
