-- Why there is no plan: the first of the tests that fails, in the order in which they are made.
use Rattle.std.specs.Prelude.{◌≡◌, ◌<◌, ◌≤◌, ◌+◌, ◌⊎◌, ℕ, suc, Bool, true, false, List, [], ◌∷◌, ◌++◌, length, Option, Some, None, Result, Ok, Err}
use Rattle.std.specs.List.{AllByRecursion}
use Rattle.expr_reader.specs.declared.fault.ExprFault.{ExprFault}
use Rattle.flow_model.specs.declared.flow.FlowJob.{FlowJob}
use Rattle.flow_model.specs.declared.flow.Workflow.{Workflow}
use Rattle.flow_model.specs.Rules.{legs_of_runs, IsPlan}
use Rattle.flow_model.specs.declared.plan.Matrix.{Matrix}
use Rattle.flow_model.specs.declared.plan.Plan.{Plan}
use Rattle.flow_model.specs.declared.plan.JobPlan.{JobPlan}
use Rattle.flow_model.specs.declared.plan.Roots.{Roots}
use Rattle.flow_model.specs.declared.plan.RunPlan.{RunPlan}
use Rattle.matrix_expand.specs.Combos.{Pairs}
use Rattle.matrix_expand.specs.Expands.{Expands}
use Rattle.matrix_expand.specs.declared.fault.MatrixFault.{MatrixFault}
use Rattle.matrix_expand.specs.declared.fault.MatrixFault.TheVariants as matrix
use Rattle.plan_assembler.specs.Graph.{HasCycle}
use Rattle.plan_assembler.specs.Layout.{ids_of, is_taken, taken, are_needs_known, graph_of, IsOrder, at_places, are_few}
use Rattle.plan_assembler.specs.Plans.{HasLegs, legs_of, job_plan, job_plans, run_plan, AssemblesRuns, Assembles}
use Rattle.plan_assembler.specs.Texts.{Evaluated, StandsInFound, Reads, of_job, of_workflow}
use Rattle.plan_assembler.specs.declared.choice.Choice.{Choice}
use Rattle.plan_assembler.specs.declared.choice.Choice.TheVariants.{Event, Job, All}
use Rattle.plan_assembler.specs.declared.fault.PlanFault.{PlanFault}
use Rattle.plan_assembler.specs.declared.fault.PlanFault.TheVariants as fault
use Rattle.plan_assembler.specs.declared.fault.FaultPlace.{FaultPlace}
use Rattle.plan_assembler.specs.declared.fault.FaultPlace.TheVariants as place

-- the first of two tests that fails: this one, or it passes and a later one fails
abbrev pub FirstOf : Type 0 → Type 0 → Type 0 → Type 0
FirstOf pass fail later = fail ⊎ (pass × later)

-- ---- a job

-- a matrix has no combinations
abbrev pub HasNoLegs : Matrix → MatrixFault → Type 0
HasNoLegs m matrix.EmptyVariable = Expands m (Err matrix.EmptyVariable)
HasNoLegs m matrix.NoCombination = Expands m (Err matrix.NoCombination)
HasNoLegs m matrix.TooMany = Expands m (Err matrix.TooMany)
HasNoLegs m matrix.Memory = ⊥

-- the matrix of the job with this number has none
abbrev pub MatrixFails : ℕ → Option Matrix → PlanFault → Type 0
MatrixFails number None f = ⊥
MatrixFails number (Some m) f = (e : MatrixFault) × ((f ≡ fault.Matrix number e) × HasNoLegs m e)

-- a text that was found at a place cannot be read, and the fault stands in it
abbrev pub TextFails : FaultPlace → Option Evaluated → PlanFault → Type 0
TextFails at found f = (e : ExprFault) × ((f ≡ fault.Expr at e) × StandsInFound found e)

-- a job passes its tests
abbrev pub JobPasses : FlowJob → Type 0
JobPasses job = HasLegs job.matrix × (of_job job ≡ None)

-- of the job with this number first the matrix, then the texts
abbrev pub JobFails : ℕ → FlowJob → PlanFault → Type 0
JobFails number job f = FirstOf (HasLegs job.matrix) (MatrixFails number job.matrix f) (TextFails (place.Job number) (of_job job) f)

-- of the jobs of a run, counted from this number on, one after the other
abbrev pub JobsFail : ℕ → List FlowJob → PlanFault → Type 0
JobsFail number [] f = ⊥
JobsFail number (job ∷ jobs) f = FirstOf (JobPasses job) (JobFails number job f) (JobsFail (suc number) jobs f)

-- ---- a workflow

-- of the jobs that a run has: how many jobs and steps there are, then the texts of the workflow itself, then the jobs
abbrev pub TakenFail : Workflow → ℕ → ℕ → List FlowJob → PlanFault → Type 0
TakenFail w run first jobs f =
    FirstOf (are_few jobs ≡ true) ((are_few jobs ≡ false) × (f ≡ fault.TooMany))
    (FirstOf (of_workflow w ≡ None) (TextFails (place.Run run) (of_workflow w) f)
    (JobsFail first jobs f))

-- of all jobs of a workflow: whether every need is a job, then whether one needs itself
abbrev pub NeedsFail : List FlowJob → PlanFault → Type 0
NeedsFail jobs f =
    FirstOf (are_needs_known jobs ≡ true) ((are_needs_known jobs ≡ false) × (f ≡ fault.UnknownNeed))
    (HasCycle (graph_of jobs) × (f ≡ fault.Cycle))

-- every need is a job, none needs itself, and this is the order of the jobs that are taken
pub record NeedsPass (choice : Choice) (jobs : List FlowJob) (order : List ℕ) : Type 0 where
  pub known : are_needs_known jobs ≡ true
  pub no_cycle : HasCycle (graph_of jobs) → ⊥
  pub is_order : IsOrder choice jobs order

-- of the workflow of this run, whose first job has the number `first`: the needs of all its jobs, then the jobs that the run has
abbrev pub RunFails : Choice → Workflow → ℕ → ℕ → PlanFault → Type 0
RunFails choice w run first f =
    NeedsFail w.jobs f ⊎ ((order : List ℕ) × (NeedsPass choice w.jobs order × TakenFail w run first (at_places w.jobs order) f))

-- the jobs that a run has pass their tests, and so does the workflow itself
pub record TakenPass (w : Workflow) (jobs : List FlowJob) : Type 0 where
  pub few : are_few jobs ≡ true
  pub texts : of_workflow w ≡ None
  pub jobs_pass : AllByRecursion JobPasses jobs

-- a workflow passes all of its tests, with its run's jobs in this order
abbrev pub RunPasses : Choice → Workflow → List ℕ → Type 0
RunPasses choice w order = NeedsPass choice w.jobs order × TakenPass w (at_places w.jobs order)

-- ---- all workflows that make a run

-- one workflow after the other, from this run on, whose first job has the number `first`
abbrev pub RunsFail : Choice → ℕ → ℕ → List Workflow → PlanFault → Type 0
RunsFail choice run first [] f = ⊥
RunsFail choice run first (w ∷ ws) f =
    RunFails choice w run first f
    ⊎ ((order : List ℕ) × (RunPasses choice w order × RunsFail choice (suc run) (first + length (at_places w.jobs order)) ws f))

-- each passes its tests
abbrev pub RunsPass : Choice → List Workflow → Type 0
RunsPass choice ws = AllByRecursion (λ w. (order : List ℕ) × RunPasses choice w order) ws

-- no workflow is taken
abbrev pub none_taken : Choice → PlanFault
none_taken (Event name) = fault.NoWorkflow
none_taken (Job id) = fault.UnknownJob
none_taken All = fault.NoWorkflow

-- There is no plan: no workflow is taken, or more than 64 are, or one of them fails a test, or the plan that they come to
-- has more than 4,096 legs.
abbrev pub Refuses : List Workflow → Roots → Choice → PlanFault → Type 0
Refuses ws roots choice f =
    FirstOf (0 < length (taken choice ws)) ((length (taken choice ws) ≡ 0) × (f ≡ none_taken choice))
    (FirstOf (length (taken choice ws) ≤ 64) ((64 < length (taken choice ws)) × (f ≡ fault.TooMany))
    (FirstOf (RunsPass choice (taken choice ws)) (RunsFail choice 0 0 (taken choice ws) f)
    ((p : Plan) × (Assembles ws roots choice p × ((4096 < legs_of_runs p.runs) × (f ≡ fault.TooMany))))))

-- a fault is want of memory, or it stands
unfoldable pub Answered : (PlanFault → Type 0) → PlanFault → Type 0
Answered fails f = (f ≡ fault.Memory) ⊎ fails f

-- ---- what the parts of this crate answer

-- the legs of a job, or a fault of its matrix
abbrev pub FindsLegs : Option Matrix → Result (List Pairs) MatrixFault → Type 0
FindsLegs m (Ok legs) = HasLegs m × (legs ≡ legs_of m)
FindsLegs None (Err e) = e ≡ matrix.Memory
FindsLegs (Some m) (Err e) = Expands m (Err e)

-- what becomes of the fault of a job's matrix
abbrev pub IsMatrixFault : ℕ → MatrixFault → PlanFault → Type 0
IsMatrixFault number e f = (m : Option Matrix) → FindsLegs m (Err e) → Answered (MatrixFails number m) f

-- what becomes of the fault of a text at a place
abbrev pub IsTextFault : FaultPlace → ExprFault → PlanFault → Type 0
IsTextFault at e f = (found : Option Evaluated) → Reads found (Err e) → Answered (TextFails at found) f

-- the legs of a job that passes its tests
abbrev pub TestsJob : ℕ → FlowJob → Result (List Pairs) PlanFault → Type 0
TestsJob number job (Ok legs) = JobPasses job × (legs ≡ legs_of job.matrix)
TestsJob number job (Err f) = Answered (JobFails number job) f

-- the job of a plan with this number, which passes its tests
abbrev pub MakesJob : List FlowJob → List ℕ → ℕ → ℕ → FlowJob → Result JobPlan PlanFault → Type 0
MakesJob jobs order first number job (Ok plan) = JobPasses job × (plan ≡ job_plan (ids_of jobs) order first number job)
MakesJob jobs order first number job (Err f) = Answered (JobFails number job) f

-- after others the job that stands at a place, if one does
abbrev pub PushesJob : List FlowJob → List ℕ → ℕ → ℕ → List JobPlan → List JobPlan → Result (Unit {0}) PlanFault → Type 0
PushesJob jobs order first place old new (Ok done) =
    AllByRecursion JobPasses (at_places jobs (place ∷ [])) × (new ≡ old ++ job_plans (ids_of jobs) order first (first + length old) (at_places jobs (place ∷ [])))
PushesJob jobs order first place old new (Err f) = Answered (JobsFail (first + length old) (at_places jobs (place ∷ []))) f

-- the jobs of a run, of which all pass their tests
abbrev pub MakesJobs : List FlowJob → List ℕ → ℕ → Result (List JobPlan) PlanFault → Type 0
MakesJobs jobs order first (Ok plans) =
    AllByRecursion JobPasses (at_places jobs order) × (plans ≡ job_plans (ids_of jobs) order first first (at_places jobs order))
MakesJobs jobs order first (Err f) = Answered (JobsFail first (at_places jobs order)) f

-- the jobs of a run, of which all pass their tests, as does the workflow itself
abbrev pub MakesTaken : Workflow → List ℕ → ℕ → ℕ → Result (List JobPlan) PlanFault → Type 0
MakesTaken w order run first (Ok plans) =
    TakenPass w (at_places w.jobs order) × (plans ≡ job_plans (ids_of w.jobs) order first first (at_places w.jobs order))
MakesTaken w order run first (Err f) = Answered (TakenFail w run first (at_places w.jobs order)) f

-- the order of the jobs of a run
abbrev pub FindsOrder : Choice → List FlowJob → Result (List ℕ) PlanFault → Type 0
FindsOrder choice jobs (Ok order) = NeedsPass choice jobs order
FindsOrder choice jobs (Err f) = Answered (NeedsFail jobs) f

-- the run of a workflow that passes all of its tests
abbrev pub MakesRun : Roots → Choice → Workflow → ℕ → ℕ → Result RunPlan PlanFault → Type 0
MakesRun roots choice w run first (Ok plan) = (order : List ℕ) × (RunPasses choice w order × (plan ≡ run_plan roots choice w order first))
MakesRun roots choice w run first (Err f) = Answered (RunFails choice w run first) f

-- after others the run of a workflow, if the choice takes it; then the number of the job after its jobs
abbrev pub Pushed : Bool → Roots → Choice → Workflow → ℕ → List RunPlan → List RunPlan → ℕ → Type 0
Pushed true roots choice w first old new next =
    (order : List ℕ) × (RunPasses choice w order × ((new ≡ old ++ run_plan roots choice w order first ∷ []) × (next ≡ first + length (at_places w.jobs order))))
Pushed false roots choice w first old new next = (new ≡ old) × (next ≡ first)

abbrev pub PushesRun : Roots → Choice → Workflow → ℕ → List RunPlan → List RunPlan → Result ℕ PlanFault → Type 0
PushesRun roots choice w first old new (Ok next) = Pushed (is_taken choice w) roots choice w first old new next
PushesRun roots choice w first old new (Err f) = (is_taken choice w ≡ true) × Answered (RunFails choice w (length old) first) f

-- the runs of all workflows that the choice takes
abbrev pub MakesRuns : Roots → Choice → List Workflow → Result (List RunPlan) PlanFault → Type 0
MakesRuns roots choice ws (Ok runs) = RunsPass choice ws × AssemblesRuns roots choice ws 0 runs
MakesRuns roots choice ws (Err f) = Answered (RunsFail choice 0 0 ws) f

-- a plan of these runs that breaks no rule, or they break one
abbrev pub ChecksRuns : List RunPlan → Result Plan PlanFault → Type 0
ChecksRuns runs (Ok p) = (p.runs ≡ runs) × IsPlan p
ChecksRuns runs (Err f) = Answered (λ g. (IsPlan (record { runs = runs }) → ⊥) × (g ≡ fault.TooMany)) f

-- A plan that the choice of these workflows comes to, and that breaks no rule; or why there is none; or want of memory.
abbrev pub Plans : List Workflow → Roots → Choice → Result Plan PlanFault → Type 0
Plans ws roots choice (Ok p) = Assembles ws roots choice p × IsPlan p
Plans ws roots choice (Err f) = Answered (Refuses ws roots choice) f
