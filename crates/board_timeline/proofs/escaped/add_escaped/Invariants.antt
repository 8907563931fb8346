use Rattle.std.proofs.Common.{◌≡◌, ◌++◌, drop}
use Rattle.board_timeline.specs.Escaped.{escaped_after}
use Rattle.board_timeline.proofs.escaped.add_escaped.Given as goal

abbrev pub invariant-loop-byte : goal.invariant-loop-byte
invariant-loop-byte l =
    l.text.items ++ escaped_after l.seen (drop l.byte-index l.words) ≡ l.initial.text.items ++ escaped_after 0 l.words
