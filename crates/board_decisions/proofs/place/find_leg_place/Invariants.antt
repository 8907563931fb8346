use Rattle.std.proofs.Common.{◌≡◌, drop}
use Rattle.board_decisions.specs.Place.{leg_place_from}
use Rattle.board_decisions.proofs.place.find_leg_place.Given as goal

abbrev pub invariant-loop-place : goal.invariant-loop-place
invariant-loop-place l = leg_place_from l.place (drop l.place l.runs) l.left ≡ leg_place_from 0 l.runs l.number
