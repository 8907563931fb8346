-- What is left to search gives what the whole text gives.
use Rattle.std.proofs.Common.{◌≡◌, ◌+◌, drop}
use Rattle.expr_reader.specs.TemplateReading.{mark_place}
use Rattle.expr_reader.proofs.marks.mark_place.Given as goal

abbrev pub invariant-loop-place : goal.invariant-loop-place
invariant-loop-place l = l.place + mark_place (drop l.place l.bytes) ≡ mark_place l.bytes
