use Rattle.std.proofs.Common.{◌≡◌, drop}
use Rattle.why_facts.proofs.notes.note_changes.Given as goal
use Rattle.why_facts.specs.Notes.{all_noted}

abbrev pub invariant-loop-change : goal.invariant-loop-change
invariant-loop-change l = all_noted l.line l.notes (drop l.change-index l.changes) ≡ all_noted l.line l.initial.notes l.changes
