-- The pairs so far, before those of the rest, are the pairs of all.
use Rattle.std.proofs.Common.{◌≡◌, length}
use denote.Shadow.{shadow}
use denote.Text.{Utf8}
use Rattle.flow_commands.specs.Splits.{fields_of}
use Rattle.flow_commands.specs.CommandTexts.{all_pairs}
use Rattle.flow_commands.proofs.Commanding.{pairs_onto}
use Rattle.flow_commands.proofs.command_lines.read_pairs.Given as goal

abbrev pub invariant-loop-field : goal.invariant-loop-field
invariant-loop-field l = (pairs_onto l.pairs (all_pairs (fields_of l.rest)) ≡ all_pairs (fields_of l.text)) × shadow (Utf8 l.rest)

abbrev pub decreases-loop-field : goal.decreases-loop-field
decreases-loop-field l = length l.rest
