-- Why workflows come to no plan, as it is told.
use Rattle.std.proofs.Common.{◌≡◌, List, inl, inr, refl}
use Rattle.status_table.specs.Words.{Roots, Workflow}
use Rattle.plan_assembler.specs.Refusals.{Answered, Refuses}
use Rattle.plan_assembler.specs.declared.choice.Choice.{Choice}
use Rattle.plan_assembler.specs.declared.fault.PlanFault.{PlanFault}
use Rattle.command_print.specs.Planning.{IsUnplanned, plan_error}
use Rattle.command_io.specs.CommandError.{UnlessMemory}
use Rattle.command_io.specs.declared.error.CommandError.TheVariants.{NotPlanned}

-- a fault other than want of memory stands
stands : (ws : List Workflow) (roots : Roots) (choice : Choice) (fault : PlanFault) → (fault ≡ PlanFault.Memory → ⊥) → Answered (Refuses ws roots choice) fault
    → IsUnplanned ws roots choice (NotPlanned fault)
unfolding Answered
stands ws roots choice fault other h = record { fault = fault; is = refl; refused = elim h [ inl e ↦ absurd (other e) | inr r ↦ r ] }

pub unplanned : (ws : List Workflow) (roots : Roots) (choice : Choice) (fault : PlanFault) → Answered (Refuses ws roots choice) fault
    → UnlessMemory (plan_error fault) (IsUnplanned ws roots choice (plan_error fault))
unplanned ws roots choice PlanFault.UnknownNeed h = stands ws roots choice PlanFault.UnknownNeed (λ e. cc) h
unplanned ws roots choice PlanFault.Cycle h = stands ws roots choice PlanFault.Cycle (λ e. cc) h
unplanned ws roots choice PlanFault.UnknownJob h = stands ws roots choice PlanFault.UnknownJob (λ e. cc) h
unplanned ws roots choice PlanFault.NoWorkflow h = stands ws roots choice PlanFault.NoWorkflow (λ e. cc) h
unplanned ws roots choice PlanFault.TooMany h = stands ws roots choice PlanFault.TooMany (λ e. cc) h
unplanned ws roots choice (PlanFault.Expr place inner) h = stands ws roots choice (PlanFault.Expr place inner) (λ e. cc) h
unplanned ws roots choice (PlanFault.Matrix number inner) h = stands ws roots choice (PlanFault.Matrix number inner) (λ e. cc) h
unplanned ws roots choice PlanFault.Memory h = tt
