-- What the contexts are, seen from a job and from a leg in play (GitHub Docs, "Contexts reference").
use Rattle.std.specs.Prelude.{ℕ, pos, ◌-◌, ◌==◌, ◌&&◌, List, [], ◌∷◌, map, length, codes, nat_le, Option, Some, None, slice_get, if◌then◌else◌}
use Rattle.std.specs.List.{zip, filter_map}
use Rattle.plan_values.specs.Words.{Board, Context, DoneStep, Env, JobPlan, Leg, Outcome, Plain, RunPlan, StepPlan, Values, env_context, greatest, laid_over, members_of, text, truth, whole, with_pair}
use Rattle.board_decisions.specs.Derived.{job_result}
use Rattle.board_decisions.specs.Numbered.{leg_there}
use Rattle.board_decisions.specs.Place.{◌>>=◌, JobAt, LegAt, job_in_run, leg_place}
use Rattle.board_decisions.specs.declared.place.JobPlace.{JobPlace}
use Rattle.board_decisions.specs.declared.place.LegPlace.{LegPlace}
use Rattle.flow_model.specs.Plain as plain

-- A map of these pairs.
abbrev pub object : List (List ℕ × Plain) → Plain
object pairs = plain.map (members_of pairs)

-- The text of a result.
abbrev pub result_name : Outcome → List ℕ
result_name Outcome.Success = codes "success"
result_name Outcome.Failure = codes "failure"
result_name Outcome.Cancelled = codes "cancelled"
result_name Outcome.Skipped = codes "skipped"

-- A count as a whole number; one that is greater than any is shown as the greatest.
abbrev pub count : ℕ → Plain
count n = whole (pos (if nat_le n greatest then n else greatest))

-- ---- github

-- The name of the event over what there is, where there is an event.
abbrev pub with_event : Option (List ℕ) → List (List ℕ × Plain) → List (List ℕ × Plain)
with_event None pairs = pairs
with_event (Some event) pairs = with_pair (codes "event_name") (text event) pairs

-- What the run was handed, with the workflow's name over it, and the event's where there is one.
unfoldable pub github_value : RunPlan → Plain
github_value plan =
    object (with_event plan.event (with_pair (codes "workflow") (text plan.flow) plan.roots.github))

-- ---- needs

-- The leg at a place, where it is one of the job.
abbrev pub leg_of_job : Board → JobPlace → LegPlace → Option Leg
leg_of_job b job place = if (place.run == job.run) && (place.job == job.job) then leg_there b place else None

-- The leg with a number, where it is one of the job.
abbrev pub job_leg : Board → JobPlace → ℕ → Option Leg
job_leg b job l = leg_place b l >>= leg_of_job b job

-- The legs of a job that are Ended, in the order in which they became so.
abbrev pub ended_legs : Board → JobPlace → List Leg
ended_legs b job = filter_map (job_leg b job) b.ends

-- Levels of names and texts laid one over another, the last above all.
abbrev pub overlaid : List Env → Env → Env
overlaid [] below = below
overlaid (level ∷ levels) below = overlaid levels (laid_over level below)

-- The outputs of a job: those of its legs, one over another in the order in which the legs ended.
unfoldable pub job_outputs : Board → JobPlace → Env
job_outputs b job = overlaid (map (λ leg. leg.outputs) (ended_legs b job)) []

-- The number of the first job of the run that a job is in.
abbrev pub first_number : JobAt → ℕ
first_number at = at.plan.number - at.place.job

-- The job at a place of the run that a job is in.
abbrev pub job_beside : JobAt → ℕ → Option JobAt
job_beside at k = job_in_run at.board at.run_plan at.run (record { run = at.place.run; job = k })

-- The job with a number that a job needs.
abbrev pub needed_job : JobAt → ℕ → Option JobAt
needed_job at need = job_beside at (need - first_number at)

-- What is seen of a job that is needed, by its outputs and its result.
abbrev pub need_shown : Env → Outcome → Plain
need_shown outputs result =
    object ((codes "outputs", env_context outputs) ∷ (codes "result", text (result_name result)) ∷ [])

-- What is seen of a job on a board that is needed.
abbrev pub need_value : JobAt → Plain
need_value need = need_shown (job_outputs need.board need.place) (job_result need.run need.job)

-- What is seen of a job that is needed, at the job's id.
abbrev pub need_pair : JobAt → List ℕ × Plain
need_pair need = (need.plan.id, need_value need)

-- The jobs with these numbers, as far as there are such, over others.
abbrev pub with_needs : JobAt → List ℕ → List (List ℕ × Plain) → List (List ℕ × Plain)
with_needs at needs pairs = laid_over (map need_pair (filter_map (needed_job at) needs)) pairs

-- The jobs that a job needs itself, by their ids.
unfoldable pub needs_value : JobAt → Plain
needs_value at = object (with_needs at at.plan.needs [])

-- ---- what a run sees

-- The value of each context, seen from a run: what it was handed.
unfoldable pub run_values : RunPlan → Values
run_values plan Context.Github = github_value plan
run_values plan Context.Inputs = object plan.roots.inputs
run_values plan Context.Vars = object plan.roots.vars
run_values plan Context.Secrets = object plan.roots.secrets
run_values plan other = object []

-- ---- what a job sees

-- The value of each context, seen from a job of a run, where `needs` is as given.
abbrev pub job_sees : RunPlan → Plain → Values
job_sees run needs Context.Needs = needs
job_sees run needs other = run_values run other

-- The value of each context, seen from a job on a board.
unfoldable pub job_values : JobAt → Values
job_values at = job_sees at.run_plan (needs_value at)

-- ---- what a leg sees

-- The job of a leg.
abbrev pub job_of : LegAt → JobAt
job_of at =
    record {
      board = at.board;
      place = record { run = at.place.run; job = at.place.job };
      run_plan = at.run_plan;
      plan = at.job_plan;
      run = at.run;
      job = at.job;
    }

-- How many legs of a job may be under way at once: all where it says nothing.
abbrev pub most_at_once : JobPlan → ℕ
most_at_once plan = most plan.max_parallel
  where
    most : Option ℕ → ℕ
    most None = length plan.legs
    most (Some limit) = limit

-- Where the leg at a place of a job stands among its legs, and how these may be executed.
abbrev pub strategy_shown : JobPlan → ℕ → Plain
strategy_shown job k =
    object (
    (codes "fail-fast", truth job.fail_fast)
    ∷ (codes "job-index", count k)
    ∷ (codes "job-total", count (length job.legs))
    ∷ (codes "max-parallel", count (most_at_once job))
    ∷ []
    )

unfoldable pub strategy_value : LegAt → Plain
strategy_value at = strategy_shown at.job_plan at.place.leg

-- The pairs of a combination, where there is one.
abbrev pub pairs_in : Option (List (List ℕ × Plain)) → List (List ℕ × Plain)
pairs_in None = []
pairs_in (Some pairs) = pairs

-- The combination of the leg at a place of a job.
abbrev pub matrix_shown : JobPlan → ℕ → Plain
matrix_shown job k = object (pairs_in (slice_get job.legs k))

unfoldable pub matrix_value : LegAt → Plain
matrix_value at = matrix_shown at.job_plan at.place.leg

-- How the job counts so far.
abbrev pub job_value : Outcome → Plain
job_value result = object ((codes "status", text (result_name result)) ∷ [])

-- What is seen of a step that is done.
abbrev pub done_value : DoneStep → Plain
done_value done =
    object (
    (codes "conclusion", text (result_name done.conclusion))
    ∷ (codes "outcome", text (result_name done.outcome))
    ∷ (codes "outputs", env_context done.outputs)
    ∷ []
    )

-- What is seen of a done step, at the step's id, where it has one.
abbrev pub id_pair : Option (List ℕ) → DoneStep → Option (List ℕ × Plain)
id_pair None done = None
id_pair (Some id) done = Some (id, done_value done)

-- What is seen of a done step beside its plan, at its id, where it has one.
abbrev pub step_pair : StepPlan × DoneStep → Option (List ℕ × Plain)
step_pair step = id_pair step.0.id step.1

-- What is seen of a done step that may have no plan, at its id, where it has one.
abbrev pub planned_pair : Option StepPlan → DoneStep → Option (List ℕ × Plain)
planned_pair None done = None
planned_pair (Some plan) done = id_pair plan.id done

-- The steps that are done and have an id, by their ids.
abbrev pub steps_shown : List StepPlan → List DoneStep → Plain
steps_shown plans done = object (laid_over (filter_map step_pair (zip plans done)) [])

unfoldable pub steps_value : LegAt → Plain
steps_value at = steps_shown at.job_plan.steps at.leg.steps

-- The value of each context, seen from a leg that counts so.
unfoldable pub leg_values_by : Outcome → LegAt → Values
leg_values_by result at Context.Strategy = strategy_value at
leg_values_by result at Context.Matrix = matrix_value at
leg_values_by result at Context.Job = job_value result
leg_values_by result at Context.Steps = steps_value at
leg_values_by result at Context.Env = object []
leg_values_by result at Context.Jobs = object []
leg_values_by result at Context.Runner = object []
leg_values_by result at other = job_values (job_of at) other
