-- What is answered of a part is answered of the whole.
use Rattle.std.proofs.Common.{◌≡◌, inl, inr}
use Rattle.plan_assembler.specs.Refusals.{Answered}
use Rattle.plan_assembler.specs.declared.fault.PlanFault.{PlanFault}
use Rattle.plan_assembler.specs.declared.fault.PlanFault.TheVariants as fault

pub answered_weaker : (R S : PlanFault → Type 0) (f : PlanFault) → ((g : PlanFault) → R g → S g) → Answered R f → Answered S f
unfolding Answered
answered_weaker R S f h a = elim a [ inl e ↦ inl e | inr r ↦ inr (h f r) ]

pub memory_answered : (R : PlanFault → Type 0) (f : PlanFault) → f ≡ fault.Memory → Answered R f
unfolding Answered
memory_answered R f e = inl e

pub fault_answered : (R : PlanFault → Type 0) (f : PlanFault) → R f → Answered R f
unfolding Answered
fault_answered R f r = inr r
