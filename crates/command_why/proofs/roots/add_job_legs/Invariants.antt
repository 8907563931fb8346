use Rattle.std.proofs.Common.{◌≡◌, ◌+◌, ◌++◌, drop}
use Rattle.why_causes.specs.Causes.{asked}
use Rattle.why_causes.specs.declared.question.Question.TheVariants as Question
use Rattle.command_why.specs.Roots.{leg_is_asked}
use Rattle.command_why.proofs.roots.add_job_legs.Given as goal

abbrev pub invariant-loop-leg : goal.invariant-loop-leg
invariant-loop-leg l = record {
  left : l.out.items ++ asked Question.Leg l.number (leg_is_asked l.job) (drop l.leg-index l.legs)
      ≡ l.initial.out.items ++ asked Question.Leg l.first (leg_is_asked l.job) l.legs;
  number : l.number ≡ l.first + l.leg-index;
}
