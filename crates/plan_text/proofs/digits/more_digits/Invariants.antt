use Rattle.std.proofs.Common.{◌≡◌, ◌<◌, ◌++◌, length, decimal}
use Rattle.plan_text.proofs.digits.more_digits.Given as goal

-- the digits that were passed are those of the number
abbrev pub invariant-loop-rest : goal.invariant-loop-rest
invariant-loop-rest l = record {
  passed : decimal l.first ++ l.text ≡ decimal l.number ++ l.rest;
  some : 0 < l.number;
  bounded : l.number < 1000000000000000;
}

abbrev pub decreases-loop-rest : goal.decreases-loop-rest
decreases-loop-rest l = length l.rest
