-- What is left to search gives what the whole text gives.
use Rattle.std.proofs.Common.{◌≡◌, false, drop}
use Rattle.expr_reader.specs.Template.{end_place}
use Rattle.expr_reader.proofs.MarkPlaces.{further}
use Rattle.expr_reader.proofs.marks.end_place.Given as goal

abbrev pub invariant-loop-place : goal.invariant-loop-place
invariant-loop-place l = further l.place (end_place l.quoted (drop l.place l.bytes)) ≡ end_place false l.bytes
