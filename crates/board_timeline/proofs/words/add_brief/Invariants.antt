use Rattle.std.proofs.Common.{◌≡◌, ◌++◌, drop}
use Rattle.board_timeline.specs.Words.{brief_after}
use Rattle.board_timeline.proofs.words.add_brief.Given as goal

abbrev pub invariant-loop-place : goal.invariant-loop-place
invariant-loop-place l =
    l.text.items ++ brief_after l.limit l.place (drop l.place l.words) ≡ l.initial.text.items ++ brief_after l.limit 0 l.words
