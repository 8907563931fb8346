use Rattle.std.proofs.Common.{◌≡◌, length}
use Rattle.plan_text.proofs.same_text.has_same_bytes.Given as goal

-- the texts are the same where what is left of them is
abbrev pub invariant-loop-left_rest : goal.invariant-loop-left_rest
invariant-loop-left_rest l = record {
  lengths : length l.left_rest ≡ length l.right_rest;
  same : l.left_rest ≡ l.right_rest → l.left ≡ l.right;
}

abbrev pub decreases-loop-left_rest : goal.decreases-loop-left_rest
decreases-loop-left_rest l = length l.left_rest
