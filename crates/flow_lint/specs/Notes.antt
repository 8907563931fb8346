-- What is told of a file's faults, and at which places.
use Rattle.std.specs.Prelude.{◌≡◌, ℕ, ◌⊎◌, List, [], Option, Some, None, Ok, Err, codes}
use Rattle.serde_json.specs.Data.{Data}
use Rattle.serde_json.specs.Find.{get}
use Rattle.flow_model.specs.JsonText.{json_read}
use Rattle.flow_model.specs.declared.flow.FlowJob.{FlowJob}
use Rattle.flow_model.specs.declared.flow.Workflow.{Workflow}
use Rattle.flow_reader.specs.Checked.{Checked}
use Rattle.flow_reader.specs.Load.{flow_read}
use Rattle.flow_reader.specs.declared.fault.FlowFault.{FlowFault}
use Rattle.flow_reader.specs.declared.fault.FlowFault.TheVariants as flow
use Rattle.plan_assembler.specs.declared.fault.PlanFault.{PlanFault}
use Rattle.plan_assembler.specs.declared.fault.PlanFault.TheVariants as plan
use Rattle.flow_lint.specs.Cycles.{TellsCycle}
use Rattle.flow_lint.specs.Hints.{SaysNeed}
use Rattle.flow_lint.specs.Places.{FilePlace, StandsAt, IsLookedAt, ShowsNeed, HasTwice, IsRepeated}
use Rattle.flow_lint.specs.Shows.{ShowsFlow, ShowsText}
use Rattle.flow_lint.specs.declared.note.Note.{Note}

-- The path leads to a place that shows something.
pub record LeadsTo (root : Data) (path : List ℕ) (Shows : FilePlace → Type 0) : Type 0 where
  pub place : FilePlace
  pub stands : StandsAt root path place
  pub shows : Shows place

-- It is to be seen at no place that is looked at.
abbrev pub IsNowhere : Data → (FilePlace → Type 0) → Type 0
IsNowhere root Shows = (path : List ℕ) (p : FilePlace) → IsLookedAt root path p → Shows p → ⊥

-- A place of a file where something is to be seen, or the whole file, where it is to be seen nowhere.
abbrev pub IsSeen : Data → List ℕ → (FilePlace → Type 0) → Type 0
IsSeen root path Shows = LeadsTo root path Shows ⊎ ((path ≡ []) × IsNowhere root Shows)

-- A place of a file where something is to be seen, or the whole file.
abbrev pub IsSeenOrWhole : Data → List ℕ → (FilePlace → Type 0) → Type 0
IsSeenOrWhole root path Shows = (path ≡ []) ⊎ LeadsTo root path Shows

-- No name is none, and an id stands twice, at the second of its places; or the whole file, where none does.
abbrev pub IsSeenTwice : Data → List ℕ → List ℕ → Type 0
IsSeenTwice root name path =
    IsNowhere root (ShowsFlow (flow.BadId name)) × (IsRepeated root name path ⊎ ((path ≡ []) × IsNowhere root (HasTwice name)))

-- Where a fault is told for which a value stands for no workflow: at a place that shows it, at the second of two equal ids, or at the
-- fault's own path, where something has the wrong shape. The whole file is told where no place shows the fault.
abbrev pub FlowPlace : Data → FlowFault → List ℕ → Type 0
FlowPlace root flow.NotJson path = Unit {0}
FlowPlace root flow.NotWhole path = IsSeen root path (ShowsFlow flow.NotWhole)
FlowPlace root (flow.Missing key) path = IsSeen root path (ShowsFlow (flow.Missing key))
FlowPlace root (flow.WrongShape shape) path = path ≡ shape
FlowPlace root (flow.BadId name) path = LeadsTo root path (ShowsFlow (flow.BadId name)) ⊎ IsSeenTwice root name path
FlowPlace root (flow.LeftOut key) path = IsSeen root path (ShowsFlow (flow.LeftOut key))
FlowPlace root flow.UnknownShell path = IsSeen root path (ShowsFlow flow.UnknownShell)
FlowPlace root flow.Memory path = Unit {0}

-- A fact about the value that a file reads as, if there is one.
abbrev pub OfJson : Option Data → (Data → Type 0) → Type 0
OfJson None Fact = Unit {0}
OfJson (Some root) Fact = Fact root

-- Where a fault is told of a file's bytes.
abbrev pub IsFlowPlace : List ℕ → FlowFault → List ℕ → Type 0
IsFlowPlace bytes fault path = OfJson (json_read bytes) (λ root. FlowPlace root fault path)

-- A fact about the workflow that a file stands for, if it stands for one.
abbrev pub OfFlow : Option (Checked Workflow) → (Workflow → Type 0) → Type 0
OfFlow None Fact = Unit {0}
OfFlow (Some (Ok workflow)) Fact = Fact workflow
OfFlow (Some (Err faults)) Fact = Unit {0}

-- A need that is no job is told at its place, with the nearest job; or the whole file, where each need is a job.
abbrev pub TellsNeed : Data → Note → Type 0
TellsNeed root note =
    LeadsTo root note.path (λ p. SaysNeed (get (codes "jobs") root) p note.sentence)
    ⊎ ((note.path ≡ []) × IsNowhere root (ShowsNeed (get (codes "jobs") root)))

-- What is told of a fault among jobs: of those that need themselves, one and its way back. Of other faults nothing is said.
abbrev pub JobsNote : List FlowJob → PlanFault → Note → Type 0
JobsNote jobs plan.UnknownNeed note = Unit {0}
JobsNote jobs plan.Cycle note = TellsCycle jobs note
JobsNote jobs plan.UnknownJob note = Unit {0}
JobsNote jobs plan.NoWorkflow note = Unit {0}
JobsNote jobs plan.TooMany note = Unit {0}
JobsNote jobs (plan.Expr at fault) note = Unit {0}
JobsNote jobs (plan.Matrix number fault) note = Unit {0}
JobsNote jobs plan.Memory note = Unit {0}

-- What is told of a fault for which a workflow comes to no plan, at which place of its file: a text that cannot be read, a need that is
-- no job, or a fault among jobs.
abbrev pub PlanNote : Option Data → Option (Checked Workflow) → PlanFault → Note → Type 0
PlanNote json flow plan.UnknownNeed note = OfJson json (λ root. TellsNeed root note)
PlanNote json flow plan.Cycle note = OfFlow flow (λ workflow. JobsNote workflow.jobs plan.Cycle note)
PlanNote json flow plan.UnknownJob note = Unit {0}
PlanNote json flow plan.NoWorkflow note = Unit {0}
PlanNote json flow plan.TooMany note = Unit {0}
PlanNote json flow (plan.Expr at fault) note = OfJson json (λ root. IsSeenOrWhole root note.path (ShowsText fault))
PlanNote json flow (plan.Matrix number fault) note = Unit {0}
PlanNote json flow plan.Memory note = Unit {0}

-- What is told of a fault in the bytes of a file of this name.
abbrev pub IsPlanNote : List ℕ → List ℕ → PlanFault → Note → Type 0
IsPlanNote name bytes fault note = PlanNote (json_read bytes) (flow_read name bytes) fault note
