use Rattle.std.proofs.Common.{◌≡◌, drop}
use Rattle.board_counters.specs.Words.{needs_turned}
use Rattle.board_counters.proofs.need.turn_needs.Given as goal

abbrev pub invariant-loop-place : goal.invariant-loop-place
invariant-loop-place l = needs_turned l.was l.is (drop l.place-index l.places) l.needs ≡ needs_turned l.was l.is l.places l.initial.needs
