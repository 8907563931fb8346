use Rattle.std.proofs.Common.{◌≡◌, drop}
use Rattle.board_decisions.specs.Place.{leg_in_jobs}
use Rattle.board_decisions.proofs.place.find_leg_in_jobs.Given as goal

abbrev pub invariant-loop-place : goal.invariant-loop-place
invariant-loop-place l = leg_in_jobs l.run l.place (drop l.place l.jobs) l.left ≡ leg_in_jobs l.run 0 l.jobs l.number
