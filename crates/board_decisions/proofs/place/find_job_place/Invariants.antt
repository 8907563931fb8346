use Rattle.std.proofs.Common.{◌≡◌, drop}
use Rattle.board_decisions.specs.Place.{job_place_from}
use Rattle.board_decisions.proofs.place.find_job_place.Given as goal

abbrev pub invariant-loop-place : goal.invariant-loop-place
invariant-loop-place l = job_place_from l.place (drop l.place l.runs) l.left ≡ job_place_from 0 l.runs l.number
