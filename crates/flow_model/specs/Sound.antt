-- The rules of a plan, each in its own words: what holds of all runs, jobs, legs and steps of a plan that breaks none.
use Rattle.std.specs.Prelude.{◌≡◌, ◌↔◌, ℕ, suc, ◌<◌, ◌≤◌, max, IsTrue, IfSome, List, length, slice_get, Option, Some}
use Rattle.expr_reader.specs.Accepts.{is_template, is_condition}
use Rattle.expr_reader.specs.Template.{IsTemplate, IsCondition}
use Rattle.flow_model.specs.Json.{is_in_range}
use Rattle.flow_model.specs.Name.{is_id}
use Rattle.flow_model.specs.Numbers.{plan_jobs, plan_legs}
use Rattle.flow_model.specs.Plain.{Plain, null, truth, whole, text, list, map as map_value, Items, no_items, item, Members, no_members, member}
use Rattle.flow_model.specs.Rules.{is_variable_name, is_whole, greatest}
use Rattle.flow_model.specs.declared.plan.Plan.{Plan}
use Rattle.flow_model.specs.declared.plan.RunPlan.{RunPlan}
use Rattle.flow_model.specs.declared.plan.Flag.{Flag}
use Rattle.flow_model.specs.declared.plan.Flag.TheVariants.{Truth, Text}
use Rattle.flow_model.specs.declared.plan.Group.{Group}
use Rattle.flow_model.specs.declared.plan.JobPlan.{JobPlan}
use Rattle.flow_model.specs.declared.plan.StepPlan.{StepPlan}
use Rattle.flow_model.specs.declared.plan.Work.{Work}
use Rattle.flow_model.specs.declared.plan.Work.TheVariants.{Run, Uses}

-- ---- lists

-- P holds of each item
abbrev pub Each : {T : Type 0} → (T → Type 0) → List T → Type 0
Each {T} P xs = (i : ℕ) (x : T) → slice_get xs i ≡ Some x → P x

-- no two items have one name; an item may have none
abbrev pub HaveDistinctNames : {T : Type 0} → (T → Option (List ℕ)) → List T → Type 0
HaveDistinctNames {T} name_of xs =
    (i j : ℕ) (a b : T) (name : List ℕ) → slice_get xs i ≡ Some a → slice_get xs j ≡ Some b → name_of a ≡ Some name → name_of b ≡ Some name → i ≡ j

-- each number is above those that stand before it
abbrev pub AscendStrictly : List ℕ → Type 0
AscendStrictly ns = (i j m n : ℕ) → slice_get ns i ≡ Some m → slice_get ns j ≡ Some n → i < j → m < n

-- ---- values

abbrev mutual
  -- how deep a value nests: a scalar 0 deep, a list or map one deeper than its deepest part, and an empty one 1
  pub nesting : Plain → ℕ
  nesting null = 0
  nesting (truth b) = 0
  nesting (whole z) = 0
  nesting (text t) = 0
  nesting (list vs) = suc (items_nesting vs)
  nesting (map_value ms) = suc (members_nesting ms)

  -- how deep the deepest item nests
  pub items_nesting : Items → ℕ
  items_nesting no_items = 0
  items_nesting (item v vs) = max (nesting v) (items_nesting vs)

  -- how deep the deepest value of a map nests
  pub members_nesting : Members → ℕ
  members_nesting no_members = 0
  members_nesting (member key v ms) = max (nesting v) (members_nesting ms)

-- nested at most so deep, with all numbers in range
abbrev pub IsWithin : ℕ → Plain → Type 0
IsWithin n v = (nesting v ≤ n) × IsTrue (is_in_range v)

-- a property of a context, or a variable of a combination
abbrev pub IsProperty : List ℕ × Plain → Type 0
IsProperty p = IsWithin 100 p.1

-- ---- texts that are evaluated

-- The tests of texts tell the templates and the conditions.
pub record TestsTell : Type 0 where
  pub template : (t : List ℕ) → IsTrue (is_template t) ↔ IsTemplate t
  pub condition : (t : List ℕ) → IsTrue (is_condition t) ↔ IsCondition t

-- a truth value that is spelled out, or a template
abbrev pub IsFlag : Flag → Type 0
IsFlag (Truth b) = Unit {0}
IsFlag (Text t) = IsTemplate t

-- a template, a number in range, a truth value or null
abbrev pub IsScalar : Plain → Type 0
IsScalar null = Unit {0}
IsScalar (truth b) = Unit {0}
IsScalar (whole z) = IsTrue (is_whole z)
IsScalar (text t) = IsTemplate t
IsScalar (list vs) = ⊥
IsScalar (map_value ms) = ⊥

-- a variable of an environment
abbrev pub IsVariable : List ℕ × Plain → Type 0
IsVariable p = IsTrue (is_variable_name p.0) × IsScalar p.1

-- an input of an action, whose name is free
abbrev pub IsInput : List ℕ × Plain → Type 0
IsInput p = IsScalar p.1

-- an output of a job: a name like an id, and a template
abbrev pub IsJobOutput : List ℕ × List ℕ → Type 0
IsJobOutput p = IsTrue (is_id p.0) × IsTemplate p.1

-- ---- the parts of a plan

-- the texts of a script are templates, and the inputs of an action are scalars
abbrev pub SoundWork : Work → Type 0
SoundWork (Run dir run shell) = IfSome dir IsTemplate × IsTemplate run
SoundWork (Uses uses given) = Each IsInput given

-- the rules of a step
pub record SoundStep (s : StepPlan) : Type 0 where
  pub condition : IfSome s.condition IsCondition
  pub env : Each IsVariable s.env
  pub id : IfSome s.id (λ t. IsTrue (is_id t))
  pub tolerate : IsFlag s.tolerate
  pub work : SoundWork s.work

-- the rules of a concurrency group
pub record SoundGroup (g : Group) : Type 0 where
  pub cancel : IsFlag g.cancel
  pub name : IsTemplate g.name

-- the rules of a job by itself
pub record SoundJob (j : JobPlan) : Type 0 where
  pub condition : IfSome j.condition IsCondition
  pub env : Each IsVariable j.env
  pub group : IfSome j.group SoundGroup
  pub id : IsTrue (is_id j.id)
  pub some_leg : 1 ≤ length j.legs
  pub few_legs : length j.legs ≤ 256
  pub legs : Each (λ combo. Each IsProperty combo) j.legs
  pub max_parallel : IfSome j.max_parallel (λ n. (1 ≤ n) × (n ≤ greatest))
  pub needs_ascend : AscendStrictly j.needs
  pub outputs : Each IsJobOutput j.outputs
  pub few_steps : length j.steps ≤ 256
  pub step_ids : HaveDistinctNames (λ s. s.id) j.steps
  pub steps : Each SoundStep j.steps
  pub tolerate : IsFlag j.tolerate

-- each need of a job is the number of a job that stands before it
abbrev pub NeedEarlierJobs : List JobPlan → Type 0
NeedEarlierJobs jobs =
    (i : ℕ) (j : JobPlan) → slice_get jobs i ≡ Some j
    → Each (λ need. (e : ℕ) × (earlier : JobPlan) × (e < i) × (slice_get jobs e ≡ Some earlier) × (earlier.number ≡ need)) j.needs

-- the rules of a run
pub record SoundRun (r : RunPlan) : Type 0 where
  pub env : Each IsVariable r.env
  pub group : IfSome r.group SoundGroup
  pub some_job : 1 ≤ length r.jobs
  pub few_jobs : length r.jobs ≤ 256
  pub job_ids : HaveDistinctNames (λ j. Some j.id) r.jobs
  pub needs : NeedEarlierJobs r.jobs
  pub jobs : Each SoundJob r.jobs
  pub github : Each IsProperty r.roots.github
  pub inputs : Each IsProperty r.roots.inputs
  pub secrets : Each IsProperty r.roots.secrets
  pub vars : Each IsProperty r.roots.vars

-- The rules of a plan. The number of a job is its place among all jobs of the plan.
pub record SoundPlan (p : Plan) : Type 0 where
  pub some_run : 1 ≤ length p.runs
  pub few_runs : length p.runs ≤ 64
  pub few_legs : length (plan_legs p) ≤ 4096
  pub numbers : (n : ℕ) (j : JobPlan) → slice_get (plan_jobs p) n ≡ Some j → j.number ≡ n
  pub runs : Each SoundRun p.runs
