-- The lines so far were told, and those of the rest follow.
use Rattle.std.proofs.Common.{◌≡◌, ◌++◌, ℕ, List, length}
use denote.Shadow.{shadow}
use denote.Text.{Utf8}
use Rattle.flow_model.specs.Lines.{lines_of}
use Rattle.flow_commands.specs.Logs.{told_with}
use Rattle.flow_commands.proofs.logs.LogTeller.add_lines.Given as goal

abbrev pub invariant-loop-rest : goal.invariant-loop-rest
invariant-loop-rest l =
    ((lines : List (List ℕ)) → told_with l.given l.fn.self (lines_of l.text ++ lines) ≡ told_with l.given l.self (lines_of l.rest ++ lines)) × shadow (Utf8 l.rest)

abbrev pub decreases-loop-rest : goal.decreases-loop-rest
decreases-loop-rest l = length l.rest
