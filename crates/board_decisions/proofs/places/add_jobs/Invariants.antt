use Rattle.std.proofs.Common.{◌≡◌, ◌++◌, drop}
use Rattle.board_decisions.specs.Places.{sizes, legs_from}
use Rattle.board_decisions.proofs.places.add_jobs.Given as goal

abbrev pub invariant-loop-place : goal.invariant-loop-place
invariant-loop-place l =
    l.places.items ++ legs_from l.run l.place (sizes (drop l.place l.jobs)) ≡ l.initial.places.items ++ legs_from l.run 0 (sizes l.jobs)
