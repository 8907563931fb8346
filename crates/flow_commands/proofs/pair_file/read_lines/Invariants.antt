-- What was set, with what the rest sets, is what all lines set.
use Rattle.std.proofs.Common.{◌≡◌, [], length}
use denote.Shadow.{shadow}
use denote.Text.{Utf8}
use Rattle.flow_model.specs.Lines.{lines_of}
use Rattle.flow_commands.specs.PairFiles.{pairs_of, then_with}
use Rattle.flow_commands.proofs.pair_file.read_lines.Given as goal

abbrev pub invariant-loop-rest : goal.invariant-loop-rest
invariant-loop-rest l = (then_with l.file l.found (pairs_of l.file (lines_of l.rest)) ≡ then_with l.file [] (pairs_of l.file (lines_of l.text))) × shadow (Utf8 l.rest)

abbrev pub decreases-loop-rest : goal.decreases-loop-rest
decreases-loop-rest l = length l.rest
