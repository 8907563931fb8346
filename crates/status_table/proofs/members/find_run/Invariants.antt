use Rattle.std.proofs.Common.{◌≡◌, drop}
use Rattle.status_table.specs.Words.{first_place, run_standing}
use Rattle.status_table.specs.Seen.{has_role}
use Rattle.status_table.proofs.members.find_run.Given as goal

abbrev pub invariant-loop-place : goal.invariant-loop-place
invariant-loop-place l =
    first_place l.place (λ run. has_role l.role l.name (run_standing run)) (drop l.place l.runs)
    ≡ first_place 0 (λ run. has_role l.role l.name (run_standing run)) l.runs
