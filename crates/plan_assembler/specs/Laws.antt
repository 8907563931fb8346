-- Laws of the definitions, each the contract of a function of the module `laws`.
use Rattle.std.specs.Prelude.{◌≡◌, ◌<◌, ◌≤◌, ◌↔◌, ◌⊎◌, ℕ, true, List, Some, None, get_or, length, slice_get}
use Rattle.std.specs.Cmp.Lexicographic.{slice_cmp}
use Rattle.std.specs.List.{AllByRecursion, Contains}
use Rattle.std.specs.Ordering.{nat_cmp}
use Rattle.std.specs.declared.cmp.Ordering.TheVariants.{Less}
use Rattle.flow_model.specs.declared.flow.FlowJob.{FlowJob}
use Rattle.flow_model.specs.Flow.{IsWorkflow}
use Rattle.flow_model.specs.Rules.{job_ids, legs_of_runs, roots_rules, IsPlan}
use Rattle.flow_model.specs.declared.flow.Workflow.{Workflow}
use Rattle.flow_model.specs.declared.plan.JobPlan.{JobPlan}
use Rattle.flow_model.specs.declared.plan.Plan.{Plan}
use Rattle.flow_model.specs.declared.plan.Roots.{Roots}
use Rattle.flow_model.specs.declared.plan.RunPlan.{RunPlan}
use Rattle.plan_assembler.specs.Chosen.{IsChosen}
use Rattle.plan_assembler.specs.Graph.{Graph, NeedsBy, HasCycle}
use Rattle.plan_assembler.specs.Layout.{ids_of, is_one_of, is_taken, taken, place_of, are_needs_known, graph_of, IsOrder}
use Rattle.plan_assembler.specs.Needed.{IsNeeded, NeedsAsNamed}
use Rattle.plan_assembler.specs.Plans.{AssemblesRun, Assembles}
use Rattle.plan_assembler.specs.Refusals.{RunsPass, Refuses}
use Rattle.plan_assembler.specs.Stages.{AreStages}
use Rattle.plan_assembler.specs.declared.choice.Choice.{Choice}
use Rattle.plan_assembler.specs.declared.choice.Choice.TheVariants.{Event, Job, All}
use Rattle.plan_assembler.specs.declared.fault.PlanFault.{PlanFault}

-- The stages of jobs are the only ones.
abbrev pub OneStaging : Type 0
OneStaging = (g : Graph) (ss us : List ℕ) → AreStages g ss → AreStages g us → ss ≡ us

-- A job that needs another, directly or not, has a greater stage.
abbrev pub NeedsFall : Type 0
NeedsFall = (g : Graph) (ss : List ℕ) → AreStages g ss → (j : ℕ) (ms : List ℕ) (k : ℕ) → NeedsBy g j ms k → get_or ss k 0 < get_or ss j 0

-- Where a job needs itself, directly or not, there are no stages.
abbrev pub NoStagesInCycles : Type 0
NoStagesInCycles = (g : Graph) (ss : List ℕ) → AreStages g ss → HasCycle g → ⊥

-- Workflows, contexts and a choice of them come to one plan at most.
abbrev pub OnePlan : Type 0
OnePlan = (ws : List Workflow) (roots : Roots) (choice : Choice) (p q : Plan) → Assembles ws roots choice p → Assembles ws roots choice q → p ≡ q

-- Where the workflows that are taken, at least one and at most 64, pass their tests, the plan that they come to breaks no
-- rule, or it has more than 4,096 legs.
abbrev pub LegsAloneAreLeft : Type 0
LegsAloneAreLeft =
    (ws : List Workflow) (roots : Roots) (choice : Choice) (p : Plan) → AllByRecursion IsWorkflow (taken choice ws) → roots_rules roots ≡ None
    → 0 < length (taken choice ws) → length (taken choice ws) ≤ 64 → RunsPass choice (taken choice ws)
    → Assembles ws roots choice p → legs_of_runs p.runs ≤ 4096 → IsPlan p

-- Where a choice is refused there is no plan: the workflows come to none that breaks no rule. They may be any workflows: all
-- that the tests ask of them, a plan that they come to says of them by its own rules.
abbrev pub RefusedHaveNone : Type 0
RefusedHaveNone =
    (ws : List Workflow) (roots : Roots) (choice : Choice) (f : PlanFault) → Refuses ws roots choice f
    → (p : Plan) → Assembles ws roots choice p → IsPlan p → ⊥

-- ---- the order of a run's jobs

-- the choice takes the job at this place: of a run for one job that job and all that it needs, else every job
abbrev pub IsTakenAt : Choice → List FlowJob → ℕ → Type 0
IsTakenAt (Event name) jobs j = j < length jobs
IsTakenAt (Job id) jobs j = IsChosen (graph_of jobs) (place_of (ids_of jobs) id) j
IsTakenAt All jobs j = j < length jobs

-- The order of a run has exactly the jobs that the choice takes.
abbrev pub OrderIsWhole : Type 0
OrderIsWhole =
    (choice : Choice) (jobs : List FlowJob) (order : List ℕ) → are_needs_known jobs ≡ true → IsOrder choice jobs order
    → (j : ℕ) → Contains order j ↔ IsTakenAt choice jobs j

-- the stage of the job with this id
abbrev pub stage_of : List FlowJob → List ℕ → List ℕ → ℕ
stage_of jobs stages id = get_or stages (place_of (ids_of jobs) id) 0

-- one job stands before another: its stage is lower, or they have one stage and its id is lower in byte order
abbrev pub StandsBefore : List FlowJob → List ℕ → List ℕ → List ℕ → Type 0
StandsBefore jobs stages id other =
    (stage_of jobs stages id < stage_of jobs stages other)
    ⊎ ((stage_of jobs stages id ≡ stage_of jobs stages other) × (slice_cmp nat_cmp id other ≡ Less))

-- The jobs of a run stand by their stage, and in a stage by their id. So none stands twice.
abbrev pub OrderAscends : Type 0
OrderAscends =
    (roots : Roots) (choice : Choice) (w : Workflow) (first : ℕ) (run : RunPlan) → IsWorkflow w → AssemblesRun roots choice w first run
    → (stages : List ℕ) → AreStages (graph_of w.jobs) stages
    → (i k : ℕ) (job later : JobPlan) → i < k → slice_get run.jobs i ≡ Some job → slice_get run.jobs k ≡ Some later
    → StandsBefore w.jobs stages job.id later.id

-- ---- what the jobs of a run need

-- The run of a workflow for one job has exactly that job and what it needs, directly or not.
abbrev pub JobWithNeeds : Type 0
JobWithNeeds =
    (roots : Roots) (w : Workflow) (id : List ℕ) (first : ℕ) (run : RunPlan) → IsWorkflow w → is_taken (Job id) w ≡ true
    → AssemblesRun roots (Job id) w first run → (other : List ℕ) → (is_one_of (job_ids run.jobs) other ≡ true) ↔ IsNeeded w.jobs id other

-- Each job of a run is by its id a job of its workflow, and needs exactly those jobs of the run whose ids that one names.
abbrev pub NeedsAreNamed : Type 0
NeedsAreNamed =
    (roots : Roots) (choice : Choice) (w : Workflow) (first : ℕ) (run : RunPlan) → IsWorkflow w → AssemblesRun roots choice w first run
    → (i : ℕ) (planned : JobPlan) → slice_get run.jobs i ≡ Some planned
    → (place : ℕ) × (job : FlowJob) × (slice_get w.jobs place ≡ Some job) × (job.id ≡ planned.id) × NeedsAsNamed run job planned
