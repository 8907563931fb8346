-- What jobs need, by their ids.
use Rattle.std.specs.Prelude.{◌≡◌, ◌&&◌, ◌↔◌, ◌⊎◌, ℕ, Bool, true, List, [], ◌∷◌, Some, slice_get}
use Rattle.std.specs.List.{Contains, list_any}
use Rattle.std.specs.Str.{bytes_eq}
use Rattle.flow_model.specs.Rules.{job_ids}
use Rattle.flow_model.specs.declared.flow.FlowJob.{FlowJob}
use Rattle.flow_model.specs.declared.plan.JobPlan.{JobPlan}
use Rattle.flow_model.specs.declared.plan.RunPlan.{RunPlan}
use Rattle.plan_assembler.specs.Layout.{is_one_of}

-- a job with this id names the other one among its needs
abbrev pub names_need : List FlowJob → List ℕ → List ℕ → Bool
names_need jobs id other = list_any (λ job. bytes_eq job.id id && is_one_of job.needs other) jobs

-- it needs the other one by way of these ids, of which each names the next
abbrev pub NamesBy : List FlowJob → List ℕ → List (List ℕ) → List ℕ → Type 0
NamesBy jobs id [] other = names_need jobs id other ≡ true
NamesBy jobs id (via ∷ ids) other = (names_need jobs id via ≡ true) × NamesBy jobs via ids other

-- An id is that of a job itself, or the job needs it, directly or not.
abbrev pub IsNeeded : List FlowJob → List ℕ → List ℕ → Type 0
IsNeeded jobs id other = (id ≡ other) ⊎ ((ids : List (List ℕ)) × NamesBy jobs id ids other)

-- A job of a run needs what this job of the workflow names: of the jobs of the run exactly those whose ids it names, every
-- id that it names is one of theirs, and every number that it needs is one of theirs.
pub record NeedsAsNamed (run : RunPlan) (job : FlowJob) (planned : JobPlan) : Type 0 where
  pub named : (k : ℕ) (other : JobPlan) → slice_get run.jobs k ≡ Some other → Contains planned.needs other.number ↔ (is_one_of job.needs other.id ≡ true)
  pub there : (id : List ℕ) → is_one_of job.needs id ≡ true → is_one_of (job_ids run.jobs) id ≡ true
  pub no_other : (n : ℕ) → Contains planned.needs n → (k : ℕ) × (other : JobPlan) × (slice_get run.jobs k ≡ Some other) × (other.number ≡ n)
