-- Which workflows and which of their jobs a choice takes, and in which order the jobs stand.
use Rattle.std.specs.Prelude.{◌≡◌, ◌&&◌, ℕ, suc, Bool, true, nat_le, List, [], ◌∷◌, map, length, Option, Some, None, slice_get, if◌then◌else◌}
use Rattle.std.specs.List.{filter, list_all, list_any}
use Rattle.std.specs.Str.{bytes_eq}
use Rattle.flow_model.specs.declared.flow.FlowJob.{FlowJob}
use Rattle.flow_model.specs.declared.flow.Workflow.{Workflow}
use Rattle.plan_assembler.specs.Chosen.{AreChosen}
use Rattle.plan_assembler.specs.Graph.{Graph, HasCycle}
use Rattle.plan_assembler.specs.Order.{order_of}
use Rattle.plan_assembler.specs.Stages.{AreStages}
use Rattle.plan_assembler.specs.declared.choice.Choice.{Choice}
use Rattle.plan_assembler.specs.declared.choice.Choice.TheVariants.{Event, Job, All}

-- the ids of jobs
abbrev pub ids_of : List FlowJob → List (List ℕ)
ids_of jobs = map (λ job. job.id) jobs

-- a text is one of these
abbrev pub is_one_of : List (List ℕ) → List ℕ → Bool
is_one_of texts text = list_any (bytes_eq text) texts

-- ---- what is chosen

-- a workflow makes a run: it names the event, it has the job, or all do
abbrev pub is_taken : Choice → Workflow → Bool
is_taken (Event name) w = is_one_of w.events name
is_taken (Job id) w = is_one_of (ids_of w.jobs) id
is_taken All w = true

-- the workflows that make a run, in the order in which they were handed in
abbrev pub taken : Choice → List Workflow → List Workflow
taken choice ws = filter (is_taken choice) ws

-- the event of the runs
abbrev pub event_of : Choice → Option (List ℕ)
event_of (Event name) = Some name
event_of (Job id) = None
event_of All = None

-- ---- the jobs of a workflow

-- the place of an id, which is beyond all of them where it is none of them
abbrev pub place_of : List (List ℕ) → List ℕ → ℕ
place_of [] id = 0
place_of (other ∷ ids) id = if bytes_eq id other then 0 else suc (place_of ids id)

-- every need is the id of a job
abbrev pub are_needs_known : List FlowJob → Bool
are_needs_known jobs = list_all (λ job. list_all (is_one_of (ids_of jobs)) job.needs) jobs

-- the places of what a job needs
abbrev pub need_places : List FlowJob → List (List ℕ) → List ℕ
need_places jobs needs = map (place_of (ids_of jobs)) needs

-- what the jobs need, by their places
abbrev pub graph_of : List FlowJob → Graph
graph_of jobs = map (λ job. map (place_of (ids_of jobs)) job.needs) jobs

-- the jobs of a workflow that its run has: the job that was asked for and all that it needs, or all of them
abbrev pub AreTaken : Choice → List FlowJob → List Bool → Type 0
AreTaken (Event name) jobs marks = marks ≡ map (λ _. true) jobs
AreTaken (Job id) jobs marks = AreChosen (graph_of jobs) (place_of (ids_of jobs) id) marks
AreTaken All jobs marks = marks ≡ map (λ _. true) jobs

-- the places of the jobs of a run, in the order of the plan
pub record IsOrder (choice : Choice) (jobs : List FlowJob) (order : List ℕ) : Type 0 where
  pub stages : List ℕ
  pub are_stages : AreStages (graph_of jobs) stages
  pub marks : List Bool
  pub are_taken : AreTaken choice jobs marks
  pub in_order : order ≡ order_of stages marks

-- what stands at a place, if anything does, before others
abbrev pub with_item : {T : Type 0} → Option T → List T → List T
with_item None xs = xs
with_item (Some x) xs = x ∷ xs

-- what stands at these places
abbrev pub at_places : {T : Type 0} → List T → List ℕ → List T
at_places xs [] = []
at_places xs (place ∷ places) = with_item (slice_get xs place) (at_places xs places)

-- a job has at most 256 steps
abbrev pub has_few_steps : FlowJob → Bool
has_few_steps job = nat_le (length job.steps) 256

-- a run has at most 256 jobs, and each of them at most 256 steps
abbrev pub are_few : List FlowJob → Bool
are_few jobs = nat_le (length jobs) 256 && list_all has_few_steps jobs

-- the job that was asked for is there
abbrev pub has_target : Choice → List FlowJob → Bool
has_target (Event name) jobs = true
has_target (Job id) jobs = is_one_of (ids_of jobs) id
has_target All jobs = true

-- The order, or none since a job needs itself.
abbrev pub Orders : Choice → List FlowJob → Option (List ℕ) → Type 0
Orders choice jobs (Some order) = IsOrder choice jobs order
Orders choice jobs None = HasCycle (graph_of jobs)
