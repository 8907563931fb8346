use Rattle.std.proofs.Common.{◌≡◌, ◌++◌, flat_map, string_bytes, take}
use Rattle.command_print.specs.Lint.{note_line}
use Rattle.command_print.proofs.lint.add_notes.Given as goal

-- the lines of the notes so far were added
abbrev pub invariant-loop-note : goal.invariant-loop-note
invariant-loop-note l = string_bytes l.text ≡ string_bytes l.initial.text ++ flat_map (note_line l.file) (take l.note-index l.notes)
