use Rattle.std.proofs.Common.{◌≡◌, drop}
use Rattle.board_counters.specs.Words.{noted}
use Rattle.board_counters.proofs.dependents.note_needs.Given as goal

abbrev pub invariant-loop-need : goal.invariant-loop-need
invariant-loop-need l = noted l.first l.place (drop l.need-index l.needs) l.lists ≡ noted l.first l.place l.needs l.initial.lists
