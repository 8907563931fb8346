use Rattle.std.proofs.Common.{◌≡◌, ◌++◌, drop}
use Rattle.why_causes.specs.Causes.{asked, leg_sought}
use Rattle.why_causes.specs.declared.question.Question.TheVariants as Question
use Rattle.why_causes.proofs.causes.add_legs.Given as goal

abbrev pub invariant-loop-leg : goal.invariant-loop-leg
invariant-loop-leg l =
    l.out.items ++ asked Question.Leg l.number (leg_sought l.wanted) (drop l.leg-index l.legs)
    ≡ l.initial.out.items ++ asked Question.Leg l.first (leg_sought l.wanted) l.legs
