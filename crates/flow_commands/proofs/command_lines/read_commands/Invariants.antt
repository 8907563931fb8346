-- The lines so far, before those of the rest, are the lines of all.
use Rattle.std.proofs.Common.{◌≡◌, ◌++◌, length}
use denote.Shadow.{shadow}
use denote.Text.{Utf8}
use Rattle.flow_model.specs.Lines.{lines_of}
use Rattle.flow_commands.specs.CommandTexts.{read_from, commands}
use Rattle.flow_commands.proofs.command_lines.read_commands.Given as goal

abbrev pub invariant-loop-rest : goal.invariant-loop-rest
invariant-loop-rest l = (l.lines ++ read_from l.stop (lines_of l.rest) ≡ commands l.text) × shadow (Utf8 l.rest)

abbrev pub decreases-loop-rest : goal.decreases-loop-rest
decreases-loop-rest l = length l.rest
