use Rattle.std.proofs.Common.{◌≡◌, ◌∙◌, Some, refl, sym}
use Rattle.flow_model.specs.Rules.{plan_rules, IsPlan}
use Rattle.plan_assembler.specs.declared.fault.PlanFault.TheVariants as fault
use Rattle.plan_assembler.proofs.Answering.{fault_answered, memory_answered}
use Rattle.plan_assembler.proofs.planner.checked.Goals as goal

pub returns-in-Err-Rule : goal.returns-in-Err-Rule
returns-in-Err-Rule c =
    let broken : plan_rules (record { runs = c.args.runs }) ≡ Some c.in-Err-Rule.field-0-0 = rw c.in-Err-Rule.field-0-is at c.in-Err-Rule.ensures.exact in
    fault_answered (λ g. (IsPlan (record { runs = c.args.runs }) → ⊥) × (g ≡ fault.TooMany)) fault.TooMany ((λ p. cc (sym p ∙ broken)), refl)

pub returns : goal.returns
returns c = memory_answered _ fault.Memory refl
