use Rattle.std.proofs.Common.{◌≡◌, drop}
use Rattle.std.specs.List.{flat_map, list_any}
use Rattle.status_table.specs.Moves as spec
use Rattle.locked_board.proofs.clerk.any_of_runs.Given as goal

-- such a leg is among those of the runs that are left, or there is none
abbrev pub invariant-loop-run : goal.invariant-loop-run
invariant-loop-run l =
    list_any (λ leg. spec.is_active leg.state) (flat_map (λ job. job.legs) (flat_map (λ run. run.jobs) (drop l.run-index l.runs)))
    ≡ list_any (λ leg. spec.is_active leg.state) (flat_map (λ job. job.legs) (flat_map (λ run. run.jobs) l.runs))
