-- The value so far, with what the rest adds to it, is the block's.
use Rattle.std.proofs.Common.{◌≡◌, ◌≤◌, length, string_bytes}
use denote.Shadow.{shadow}
use denote.Text.{Utf8}
use Rattle.flow_model.specs.Lines.{lines_of}
use Rattle.flow_commands.specs.Blocks.{block_lines, value_from, block_value}
use Rattle.flow_commands.proofs.pair_file.read_block.Given as goal

abbrev pub invariant-loop-delimiter : goal.invariant-loop-delimiter
invariant-loop-delimiter l =
    (value_from l.first (string_bytes l.value) (block_lines l.delimiter (lines_of l.rest)) ≡ block_value l.delimiter (lines_of l.text))
    × (length l.rest ≤ length l.text) × shadow (Utf8 l.rest)

abbrev pub decreases-loop-delimiter : goal.decreases-loop-delimiter
decreases-loop-delimiter l = length l.rest
