-- The plan that a choice of workflows comes to.
use Rattle.std.specs.Prelude.{◌≡◌, ◌+◌, ℕ, suc, true, unwrap_or, List, [], ◌∷◌, map, length, Option, Some, None, Ok}
use Rattle.std.specs.List.{AllByRecursion}
use Rattle.flow_model.specs.declared.flow.FlowJob.{FlowJob}
use Rattle.flow_model.specs.declared.flow.Workflow.{Workflow}
use Rattle.flow_model.specs.declared.plan.JobPlan.{JobPlan}
use Rattle.flow_model.specs.declared.plan.Matrix.{Matrix}
use Rattle.flow_model.specs.declared.plan.Plan.{Plan}
use Rattle.flow_model.specs.declared.plan.Roots.{Roots}
use Rattle.flow_model.specs.declared.plan.RunPlan.{RunPlan}
use Rattle.matrix_expand.specs.Combos.{Pairs, combos}
use Rattle.matrix_expand.specs.Expands.{Expands}
use Rattle.plan_assembler.specs.Graph.{HasCycle}
use Rattle.plan_assembler.specs.Layout.{ids_of, taken, event_of, place_of, are_needs_known, graph_of, IsOrder, at_places}
use Rattle.plan_assembler.specs.Order.{numbers_of}
use Rattle.plan_assembler.specs.declared.choice.Choice.{Choice}

-- the legs of a job: the combinations of its matrix, or one that is empty
abbrev pub legs_of : Option Matrix → List Pairs
legs_of None = [] ∷ []
legs_of (Some m) = combos m

-- a matrix has combinations, at most 256
abbrev pub HasLegs : Option Matrix → Type 0
HasLegs None = Unit {0}
HasLegs (Some m) = Expands m (Ok (combos m))

-- a job of a plan, with these legs, needs and number
abbrev pub job_with : FlowJob → List Pairs → List ℕ → ℕ → JobPlan
job_with job legs needs number = record {
  condition = job.condition;
  env = job.env;
  fail_fast = job.fail_fast;
  group = job.group;
  id = job.id;
  legs = legs;
  max_parallel = job.max_parallel;
  name = unwrap_or job.name job.id;
  needs = needs;
  number = number;
  outputs = job.outputs;
  steps = job.steps;
  tolerate = job.tolerate;
}

-- A job of a plan: the jobs of its run have these places among those of these ids, and the first of them has the number `first`.
abbrev pub job_plan : List (List ℕ) → List ℕ → ℕ → ℕ → FlowJob → JobPlan
job_plan ids order first number job = job_with job (legs_of job.matrix) (numbers_of first order (map (place_of ids) job.needs)) number

-- the jobs of a run, of which this is the number of the first of these
abbrev pub job_plans : List (List ℕ) → List ℕ → ℕ → ℕ → List FlowJob → List JobPlan
job_plans ids order first number [] = []
job_plans ids order first number (job ∷ jobs) = job_plan ids order first number job ∷ job_plans ids order first (suc number) jobs

-- a run of a workflow, with these jobs
abbrev pub run_with : Roots → Choice → Workflow → List JobPlan → RunPlan
run_with roots choice w jobs = record {
  env = w.env;
  event = event_of choice;
  flow = w.name;
  group = w.group;
  jobs = jobs;
  roots = roots;
}

-- the run of a workflow, whose jobs are numbered from `first` on
abbrev pub run_plan : Roots → Choice → Workflow → List ℕ → ℕ → RunPlan
run_plan roots choice w order first = run_with roots choice w (job_plans (ids_of w.jobs) order first first (at_places w.jobs order))

-- A run of a workflow, whose jobs are numbered from `first` on: over all of its jobs every need is a job and none needs itself.
pub record AssemblesRun (roots : Roots) (choice : Choice) (w : Workflow) (first : ℕ) (run : RunPlan) : Type 0 where
  pub known : are_needs_known w.jobs ≡ true
  pub no_cycle : HasCycle (graph_of w.jobs) → ⊥
  pub order : List ℕ
  pub is_order : IsOrder choice w.jobs order
  pub legs : AllByRecursion (λ job. HasLegs job.matrix) (at_places w.jobs order)
  pub is_run : run ≡ run_plan roots choice w order first

-- one run for each workflow, in their order
abbrev pub AssemblesRuns : Roots → Choice → List Workflow → ℕ → List RunPlan → Type 0
AssemblesRuns roots choice [] first [] = Unit {0}
AssemblesRuns roots choice (w ∷ ws) first (run ∷ runs) = AssemblesRun roots choice w first run × AssemblesRuns roots choice ws (first + length run.jobs) runs
AssemblesRuns roots choice [] first (run ∷ runs) = ⊥
AssemblesRuns roots choice (w ∷ ws) first [] = ⊥

-- the plan has a run for each workflow that the choice takes
abbrev pub Assembles : List Workflow → Roots → Choice → Plan → Type 0
Assembles ws roots choice p = AssemblesRuns roots choice (taken choice ws) 0 p.runs
