-- The line of a fault of planning is that of what is inside it.
use Rattle.std.proofs.Common.{◌≡◌, ◌⊎◌, inl, inr, refl, ap, sym, ◌∙◌, append_assoc, ◌++◌, codes, decimal}
use Rattle.status_table.specs.Words.{ExprFault, fault_name, fault_place}
use Rattle.plan_assembler.specs.Faults.{plan_fault_name, plan_fault_text}
use Rattle.plan_assembler.specs.declared.fault.PlanFault.{PlanFault}
use Rattle.plan_assembler.specs.declared.fault.FaultPlace.{FaultPlace}
use Rattle.command_io.specs.CommandError.{unplanned_line, unread_line}

-- the line of a text that cannot be read is the line of its fault
pub unread_is : (place : FaultPlace) (fault : ExprFault) → unread_line (fault_name fault) (fault_place fault) ≡ unplanned_line (PlanFault.Expr place fault)
unread_is place fault = ap (λ l. codes "actrun: plan Expr " ++ l) (sym (append_assoc (fault_name fault) (codes " at " ++ decimal (fault_place fault)) (codes "\n")))

-- a fault with nothing inside
abbrev IsPlain : PlanFault → Type 0
IsPlain fault =
    (fault ≡ PlanFault.UnknownNeed)
    ⊎ ((fault ≡ PlanFault.Cycle)
    ⊎ ((fault ≡ PlanFault.UnknownJob) ⊎ ((fault ≡ PlanFault.NoWorkflow) ⊎ ((fault ≡ PlanFault.TooMany) ⊎ (fault ≡ PlanFault.Memory)))))

-- the text of one is its name
pub plain_text : (fault : PlanFault) → IsPlain fault → plan_fault_name fault ≡ plan_fault_text fault
plain_text fault h =
    elim h [
      | inl e ↦ by PlanFault.UnknownNeed refl e
      | inr h1 ↦ elim h1 [
        | inl e ↦ by PlanFault.Cycle refl e
        | inr h2 ↦ elim h2 [
          | inl e ↦ by PlanFault.UnknownJob refl e
          | inr h3 ↦ elim h3 [
            | inl e ↦ by PlanFault.NoWorkflow refl e
            | inr h4 ↦ elim h4 [ inl e ↦ by PlanFault.TooMany refl e | inr e ↦ by PlanFault.Memory refl e ]
          ]
        ]
      ]
    ]
  where
    by : (known : PlanFault) → plan_fault_name known ≡ plan_fault_text known → fault ≡ known → plan_fault_name fault ≡ plan_fault_text fault
    by known same e = ap plan_fault_name e ∙ same ∙ sym (ap plan_fault_text e)
