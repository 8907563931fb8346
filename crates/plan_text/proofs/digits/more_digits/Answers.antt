use Rattle.std.proofs.Common.{◌∙◌, arith}
use Rattle.plan_text.proofs.Numerals.{digit-goes-on}
use Rattle.plan_text.proofs.digits.more_digits.Goals as goal

pub loop-rest-preserved : goal.loop-rest-preserved
loop-rest-preserved c = record {
  passed =
      c.loop-rest.invariant.passed
      ∙ digit-goes-on c.loop-rest.number c.loop-rest.rest.now c.in-Some.digit _ (omega (arith, c.in-len1-up.len_at_least)) c.in-Some.ensures.1 c.in-Some.ensures.0 c.loop-rest.invariant.some (omega arith);
  some = omega (arith, c.loop-rest.invariant.some);
  bounded = omega (arith, c.in-Some.ensures.0);
}
