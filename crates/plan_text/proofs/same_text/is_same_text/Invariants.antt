use Rattle.std.proofs.Common.{◌≡◌, length}
use Rattle.plan_text.proofs.same_text.is_same_text.Given as goal

-- the texts are the same where what is left of them is
abbrev pub invariant-loop-left_word : goal.invariant-loop-left_word
invariant-loop-left_word l = record {
  lengths : length l.left_rest ≡ length l.right_rest;
  same : l.left_rest ≡ l.right_rest → l.left ≡ l.right;
}

abbrev pub decreases-loop-left_word : goal.decreases-loop-left_word
decreases-loop-left_word l = length l.left_rest
