-- What the contexts `needs` and `steps` and the outputs of a job give, name by name (GitHub Docs, "Contexts reference").
use Rattle.std.specs.Prelude.{◌≡◌, ◌↔◌, ℕ, List, [], ◌∷◌, map, Option, Some, None, slice_get}
use Rattle.std.specs.List.{AllByRecursion, zip, filter_map}
use Rattle.status_table.specs.Words.{Ascends, Board, DoneStep, Env, HaveDistinctNames, JobAt, JobPlace, LegAt, Plain, StepPlan, done_value, ended_legs, job_outputs, laid_over, need_value, needed_job, needs_value, object, or_below, step_pair, steps_value, value_at, with_needs}

-- ---- outputs of a job

-- What the last level that has a name has there.
abbrev pub last_giving : List ℕ → List Env → Option (List ℕ)
last_giving name [] = None
last_giving name (level ∷ levels) = or_below (last_giving name levels) (value_at name level)

-- Of the legs that ended with an output of that name, the one that ended last gives it.
abbrev pub LastLegWins : Type 0
LastLegWins =
    (b : Board) (job : JobPlace) (name : List ℕ) → AllByRecursion (λ leg. Ascends leg.outputs) (ended_legs b job)
    → value_at name (job_outputs b job) ≡ last_giving name (map (λ leg. leg.outputs) (ended_legs b job))

-- ---- needs

-- A job is one that another needs itself.
pub record IsNeeded (at need : JobAt) : Type 0 where
  pub place : ℕ
  pub number : ℕ
  pub named : slice_get at.plan.needs place ≡ Some number
  pub there : needed_job at number ≡ Some need

-- The context `needs` has exactly the jobs that the job needs itself, by their ids, which differ in a run: of each its outputs and result.
abbrev pub NeedsAreDirect : Type 0
NeedsAreDirect =
    (at : JobAt) → HaveDistinctNames (λ j. Some j.id) at.run_plan.jobs
    → (needs_value at ≡ object (with_needs at at.plan.needs []))
    × ((id : List ℕ) (v : Plain)
    → (value_at id (with_needs at at.plan.needs []) ≡ Some v) ↔ ((need : JobAt) × IsNeeded at need × (need.plan.id ≡ id) × (need_value need ≡ v)))

-- ---- steps

-- A step that is done has this id.
pub record IsDone (at : LegAt) (id : List ℕ) (done : DoneStep) : Type 0 where
  pub place : ℕ
  pub plan : StepPlan
  pub planned : slice_get at.job_plan.steps place ≡ Some plan
  pub named : plan.id ≡ Some id
  pub there : slice_get at.leg.steps place ≡ Some done

-- The steps of a leg that are done and have an id, by it.
abbrev pub done_pairs : LegAt → List (List ℕ × Plain)
done_pairs at = laid_over (filter_map step_pair (zip at.job_plan.steps at.leg.steps)) []

-- The context `steps` has exactly the steps of the leg that are done and have an id, which differ in a job: of each its outputs,
-- outcome and conclusion.
abbrev pub StepsAreDone : Type 0
StepsAreDone =
    (at : LegAt) → HaveDistinctNames (λ s. s.id) at.job_plan.steps
    → (steps_value at ≡ object (done_pairs at))
    × ((id : List ℕ) (v : Plain) → (value_at id (done_pairs at) ≡ Some v) ↔ ((done : DoneStep) × IsDone at id done × (done_value done ≡ v)))
