use Rattle.std.proofs.Common.{◌≡◌, drop}
use Rattle.std.specs.List.{flat_map, list_any}
use Rattle.status_table.specs.Moves as spec
use Rattle.locked_board.proofs.clerk.any_of_jobs.Given as goal

-- such a leg is among those of the jobs that are left, or there is none
abbrev pub invariant-loop-job : goal.invariant-loop-job
invariant-loop-job l =
    list_any (λ leg. spec.is_active leg.state) (flat_map (λ job. job.legs) (drop l.job-index l.jobs))
    ≡ list_any (λ leg. spec.is_active leg.state) (flat_map (λ job. job.legs) l.jobs)
