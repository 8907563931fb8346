-- The plan that files come to: contexts and workflows are read of them, and a choice of the workflows is planned.
use Rattle.std.specs.Prelude.{◌≡◌, ℕ, ◌⊎◌, List, [], ◌∷◌, Option, Some, Result, Ok, Err}
use Rattle.status_table.specs.Words.{IsPlan, Plan, Roots, Workflow}
use Rattle.flow_reader.specs.Checked.{Checked}
use Rattle.flow_reader.specs.Load.{flow_read, roots_read, Tells}
use Rattle.flow_reader.specs.declared.fault.FlowFault.{FlowFault}
use Rattle.plan_assembler.specs.Plans.{Assembles}
use Rattle.plan_assembler.specs.Refusals.{Refuses}
use Rattle.plan_assembler.specs.declared.choice.Choice.{Choice}
use Rattle.plan_assembler.specs.declared.fault.PlanFault.{PlanFault}
use Rattle.command_io.specs.Files.{Content}
use Rattle.command_io.specs.CommandError.{UnlessMemory}
use Rattle.command_io.specs.declared.error.CommandError.{CommandError}
use Rattle.command_io.specs.declared.error.CommandError.TheVariants.{NoFlow, NotPlanned, Memory}

-- ---- what files stand for

-- The contexts that a file gives.
abbrev pub GivesRoots : Content → Roots → Type 0
GivesRoots file roots = roots_read file.bytes ≡ Some (Ok roots)

-- The workflow that a file stands for, which has the file's name as its path.
abbrev pub GivesFlow : Content → Workflow → Type 0
GivesFlow file flow = flow_read file.name file.bytes ≡ Some (Ok flow)

-- The workflows that files stand for.
abbrev pub GiveFlows : List Content → List Workflow → Type 0
GiveFlows [] [] = Unit {0}
GiveFlows [] (flow ∷ flows) = ⊥
GiveFlows (file ∷ files) [] = ⊥
GiveFlows (file ∷ files) (flow ∷ flows) = GivesFlow file flow × GiveFlows files flows

-- The error is that the file of this name stands for nothing, by a fault that its text has.
pub record IsFaulty {A : Type 0} (name : List ℕ) (meaning : Option (Checked A)) (error : CommandError) : Type 0 where
  pub fault : FlowFault
  pub is : error ≡ NoFlow name fault
  pub named : fault ≡ FlowFault.Memory → ⊥
  pub stands : Tells {A = A} (Err fault) meaning

-- A file gives no contexts.
abbrev pub GivesNoRoots : Content → CommandError → Type 0
GivesNoRoots file error = IsFaulty file.name (roots_read file.bytes) error

-- A file stands for no workflow.
abbrev pub GivesNoFlow : Content → CommandError → Type 0
GivesNoFlow file error = IsFaulty file.name (flow_read file.name file.bytes) error

-- The first of the files that stands for no workflow.
abbrev pub GiveNoFlows : List Content → CommandError → Type 0
GiveNoFlows [] error = ⊥
GiveNoFlows (file ∷ files) error = GivesNoFlow file error ⊎ ((flow : Workflow) × GivesFlow file flow × GiveNoFlows files error)

-- ---- what they come to

-- The choice of the workflows comes to no plan.
pub record IsUnplanned (flows : List Workflow) (roots : Roots) (choice : Choice) (error : CommandError) : Type 0 where
  pub fault : PlanFault
  pub is : error ≡ NotPlanned fault
  pub refused : Refuses flows roots choice fault

-- The plan that the workflows' files come to, with the contexts of a file.
pub record ComesTo (choice : Choice) (contexts : Content) (files : List Content) (plan : Plan) : Type 0 where
  pub roots : Roots
  pub flows : List Workflow
  pub has_roots : GivesRoots contexts roots
  pub has_flows : GiveFlows files flows
  pub assembles : Assembles flows roots choice plan
  pub sound : IsPlan plan

-- Why there is none, where there are contexts: a workflow's file, and then the planning.
abbrev pub FlowsFail : Choice → Roots → List Content → CommandError → Type 0
FlowsFail choice roots files error =
    GiveNoFlows files error ⊎ ((flows : List Workflow) × GiveFlows files flows × IsUnplanned flows roots choice error)

-- Why there is none: the file of contexts, then the workflows' files, and then the planning.
abbrev pub ComesToNone : Choice → Content → List Content → CommandError → Type 0
ComesToNone choice contexts files error =
    GivesNoRoots contexts error ⊎ ((roots : Roots) × GivesRoots contexts roots × FlowsFail choice roots files error)

-- ---- what the code answers

-- Something that is so, or the error why it is not; want of memory may always be answered.
abbrev pub Finds : {A : Type 0} → (A → Type 0) → (CommandError → Type 0) → Result A CommandError → Type 0
Finds Is Fails (Ok found) = Is found
Finds Is Fails (Err error) = UnlessMemory error (Fails error)

-- The plan that a choice of workflows comes to, which breaks no rule.
abbrev pub IsPlanned : List Workflow → Roots → Choice → Plan → Type 0
IsPlanned flows roots choice plan = Assembles flows roots choice plan × IsPlan plan

-- The error of a fault of planning.
abbrev pub plan_error : PlanFault → CommandError
plan_error PlanFault.UnknownNeed = NotPlanned PlanFault.UnknownNeed
plan_error PlanFault.Cycle = NotPlanned PlanFault.Cycle
plan_error PlanFault.UnknownJob = NotPlanned PlanFault.UnknownJob
plan_error PlanFault.NoWorkflow = NotPlanned PlanFault.NoWorkflow
plan_error PlanFault.TooMany = NotPlanned PlanFault.TooMany
plan_error (PlanFault.Expr place fault) = NotPlanned (PlanFault.Expr place fault)
plan_error (PlanFault.Matrix number fault) = NotPlanned (PlanFault.Matrix number fault)
plan_error PlanFault.Memory = Memory

-- The error of a fault in the file of that name.
abbrev pub TellsFault : List ℕ → FlowFault → CommandError → Type 0
TellsFault name fault error = UnlessMemory error ((fault ≡ FlowFault.Memory → ⊥) × (error ≡ NoFlow name fault))
