-- What a plan comes to whatever the order in which it is played: jobs in the order of their numbers, each leg
-- by itself, its steps one after the other, by what is settled before and by the one answer that there is for
-- each call. Nothing of it speaks of a board, of groups, or of an order of events. No leg is to stop, and no
-- run was told to. Where there is no answer to a call, neither that step is given nor what needs it.
use Rattle.std.specs.Prelude.{ℕ, suc, ◌+◌, ◌-◌, ◌==◌, ◌++◌, ◌&&◌, Bool, true, false, not, List, [], ◌∷◌, map, length, Option, Some, None, Result, Ok, Err, option_map, is_some, slice_get, if◌then◌else◌}
use Rattle.std.specs.List.{flat_map, list_all, list_any, filter_map}
use Rattle.status_table.specs.Words.{Answer, DoneStep, Env, JobPlan, Outcome, Plain, Plan, RunPlan, Sight, Status, StepCall, StepPlan, TextPlace, ValueFault, any_ancestor, condition_value, contexts_at, holds, holds_at, is_cancelled, is_failure, is_success, job_passes, job_sees, laid_over, need_shown, object, outcome_of, outputs_of, outputs_of_leg, overlaid, set_by, sight, skipped_step, status_by, status_of, step_call, step_passes, with_env, ◌>>=◌}
use Rattle.board_settled.specs.Sees.{Spot, leg_sees}

-- What answers a call, if there is an answer.
abbrev pub Answers : Type 0
Answers = StepCall → Option Answer

-- ---- what is settled

-- How a leg ends: its result, whether that is tolerated, and what it gives its job.
pub record Finish : Type 0 where
  pub result : Outcome
  pub tolerated : Bool
  pub outputs : Env

-- A leg: the steps that are done, one after the other, and its end where all of them are.
pub record SettledLeg : Type 0 where
  pub steps : List DoneStep
  pub finish : Option Finish

-- A job: shut with a result, opened with its legs, or not judged, since something that it needs is not given.
pub data SettledJob : Type 0 where
  unsettled : SettledJob
  shut : Outcome → SettledJob
  opened : List SettledLeg → SettledJob

-- A run: its jobs, and its result where all of them have one.
pub record SettledRun : Type 0 where
  pub jobs : List SettledJob
  pub result : Option Outcome

-- ---- results

-- All of some things, where each is given.
abbrev pub all_given : {A : Type 0} → List (Option A) → Option (List A)
all_given [] = Some []
all_given (None ∷ xs) = None
all_given (Some x ∷ xs) = option_map (λ ys. x ∷ ys) (all_given xs)

-- Failure where one passes the test of failures, else cancelled where one was, else success.
abbrev pub worst : Bool → Bool → Outcome
worst failed cancelled =
    if failed then Outcome.Failure else (if cancelled then Outcome.Cancelled else Outcome.Success)

-- A leg ended with a failure that is not tolerated.
abbrev pub fails : Finish → Bool
fails finish = is_failure finish.result && not finish.tolerated

-- What legs that have ended come to.
abbrev pub legs_come_to : List Finish → Outcome
legs_come_to ends = worst (list_any fails ends) (list_any (λ finish. is_cancelled finish.result) ends)

-- What jobs that have ended come to.
abbrev pub jobs_come_to : List Outcome → Outcome
jobs_come_to results = worst (list_any is_failure results) (list_any is_cancelled results)

-- The result of a job, where it is given: of one that was opened, where all its legs have ended.
abbrev pub result_of : SettledJob → Option Outcome
result_of unsettled = None
result_of (shut result) = Some result
result_of (opened legs) = option_map legs_come_to (all_given (map (λ leg. leg.finish) legs))

-- What a leg gives its job.
abbrev pub given_by : Option Finish → Env
given_by None = []
given_by (Some finish) = finish.outputs

-- The outputs of a job: those of its legs, laid over one another in the order of their numbers.
abbrev pub outputs_of_job : SettledJob → Env
outputs_of_job (opened legs) = overlaid (map (λ leg. given_by leg.finish) legs) []
outputs_of_job other = []

-- ---- steps

-- How a leg counts after its steps that are done: a failure where one counts as such.
abbrev pub counts : List DoneStep → Outcome
counts done = if list_any (λ step. is_failure step.conclusion) done then Outcome.Failure else Outcome.Success

-- What each place sees from a leg after its steps that are done.
unfoldable pub seen_after : Spot → List DoneStep → Sight
seen_after spot done = sight (leg_sees spot (counts done) done)

-- The call of the next step, or none where it is skipped, or a fault of a text.
unfoldable pub next_call : Spot → List DoneStep → StepPlan → Result (Option StepCall) ValueFault
next_call spot done step =
    step_call (seen_after spot done) (status_of (counts done)) spot.run spot.job spot.number done step

-- How a failure of the next step counts: one that may be passed over counts as a success.
abbrev pub failure_counts : Spot → List DoneStep → StepPlan → Outcome
failure_counts spot done step =
    if step_passes (seen_after spot done) spot.run spot.job done step then Outcome.Success else Outcome.Failure

-- How an outcome counts for the next step.
abbrev pub concludes : Spot → List DoneStep → StepPlan → Outcome → Outcome
concludes spot done step Outcome.Success = Outcome.Success
concludes spot done step Outcome.Failure = failure_counts spot done step
concludes spot done step Outcome.Cancelled = Outcome.Cancelled
concludes spot done step Outcome.Skipped = Outcome.Skipped

-- The next step that ends so, with these outputs and these variables that it set.
abbrev pub ends_so : Spot → List DoneStep → StepPlan → Outcome → Env → Env → DoneStep
ends_so spot done step result outputs env =
    record { outcome = result; conclusion = concludes spot done step result; outputs = outputs; env = env }

-- The next step that an answer ends.
abbrev pub answered : Spot → List DoneStep → StepPlan → Answer → DoneStep
answered spot done step answer = ends_so spot done step (outcome_of answer) (outputs_of answer) (set_by answer)

-- What the next step comes to by its call: a fault of a text is a failure without outputs that sets nothing.
abbrev pub step_by : Answers → Spot → List DoneStep → StepPlan → Result (Option StepCall) ValueFault → Option DoneStep
step_by answers spot done step (Ok None) = Some skipped_step
step_by answers spot done step (Ok (Some call)) = option_map (answered spot done step) (answers call)
step_by answers spot done step (Err fault) = Some (ends_so spot done step Outcome.Failure [] [])

-- The next step, where it is given.
unfoldable pub next_done : Answers → Spot → List DoneStep → StepPlan → Option DoneStep
next_done answers spot done step = step_by answers spot done step (next_call spot done step)

-- ---- a leg

-- Nothing more is done where the next step is not given; else what follows it.
abbrev pub steps_then : List DoneStep → Option DoneStep → (DoneStep → List DoneStep) → List DoneStep
steps_then done None rest = done
steps_then done (Some next) rest = rest next

-- The steps that are done after these, with those of a list to come.
abbrev pub steps_from : Answers → Spot → List DoneStep → List StepPlan → List DoneStep
steps_from answers spot done [] = done
steps_from answers spot done (step ∷ steps) =
    steps_then done (next_done answers spot done step) (λ next.
    steps_from answers spot (done ++ next ∷ []) steps)

-- How a leg ends after its steps.
unfoldable pub finish_of : Spot → List DoneStep → Finish
finish_of spot done =
    record {
      result = counts done;
      tolerated = is_failure (counts done) && job_passes (seen_after spot done) spot.job;
      outputs = outputs_of_leg (seen_after spot done) spot.run spot.job done;
    }

-- A leg, by its steps: its end is given where all of them are.
abbrev pub leg_after : Spot → List DoneStep → SettledLeg
leg_after spot done =
    record {
      steps = done;
      finish = if length done == length spot.job.steps then Some (finish_of spot done) else None;
    }

-- A leg by itself.
unfoldable pub leg_settled : Answers → Spot → SettledLeg
leg_settled answers spot = leg_after spot (steps_from answers spot [] spot.job.steps)

-- ---- a job

-- The leg at a place of a job, whose first leg has this number.
abbrev pub spot_at : RunPlan → JobPlan → Plain → ℕ → ℕ → Spot
spot_at run job needs first k =
    record { number = first + k; run = run; job = job; place = k; needs = needs }

-- The legs of a job from place k on, as many as there are combinations.
abbrev pub legs_from : Answers → RunPlan → JobPlan → Plain → ℕ → ℕ → List (List (List ℕ × Plain)) → List SettledLeg
legs_from answers run job needs first k [] = []
legs_from answers run job needs first k (combo ∷ combos) =
    leg_settled answers (spot_at run job needs first k) ∷ legs_from answers run job needs first (suc k) combos

-- The legs of a job.
abbrev pub legs_settled : Answers → RunPlan → JobPlan → Plain → ℕ → List SettledLeg
legs_settled answers run job needs first = legs_from answers run job needs first 0 job.legs

-- The number of the first job of a run, by a job with so many jobs of the run before it.
abbrev pub first_in_run : JobPlan → List SettledJob → ℕ
first_in_run job before = job.number - length before

-- What is seen of a job at its id, where it has a result.
abbrev pub need_pair_of : JobPlan → SettledJob → Option (List ℕ × Plain)
need_pair_of plan job = option_map (λ result. (plan.id, need_shown (outputs_of_job job) result)) (result_of job)

-- What is seen of the job at a place of the run, at its id, where it is among those that are settled and has a result.
abbrev pub need_at : RunPlan → List SettledJob → ℕ → Option (List ℕ × Plain)
need_at run before k =
    slice_get run.jobs k >>= λ plan. slice_get before k >>= λ job. need_pair_of plan job

-- The context `needs` of a job: the jobs that it needs itself, by their ids.
unfoldable pub needs_of : RunPlan → List SettledJob → JobPlan → Plain
needs_of run before job =
    object (laid_over (filter_map (λ need. need_at run before (need - first_in_run job before)) job.needs) [])

-- A job has a result.
abbrev pub has_result : SettledJob → Bool
has_result job = is_some (result_of job)

-- A job has a result that passes a test.
abbrev pub result_passes : (Outcome → Bool) → SettledJob → Bool
result_passes test job = holds (option_map test (result_of job))

-- Each job that a job needs has a result. So has each of its ancestors then: without that of what it needs,
-- the needed job would not be judged.
abbrev pub needs_given : List SettledJob → JobPlan → Bool
needs_given before job =
    list_all (λ need. holds_at (map has_result before) (need - first_in_run job before)) job.needs

-- The status of a job, by the results of its ancestors: failure where one failed, else success where all
-- succeeded, else neither.
abbrev pub status_after : RunPlan → List SettledJob → JobPlan → Status
status_after run before job =
    status_by (any_ancestor (first_in_run job before) run.jobs (map (result_passes is_failure) before) (length before))
    (any_ancestor (first_in_run job before) run.jobs
    (map (result_passes (λ result. not (is_success result))) before) (length before))

-- The condition of a job under its status.
unfoldable pub condition_after : RunPlan → List SettledJob → JobPlan → Result Bool ValueFault
condition_after run before job =
    condition_value (contexts_at TextPlace.JobCondition (with_env [] (job_sees run (needs_of run before job))))
    (status_after run before job) job.condition

-- A job is opened where its condition is true, skipped where it is not, and failed where it has a fault.
abbrev pub judged : Result Bool ValueFault → List SettledLeg → SettledJob
judged (Ok true) legs = opened legs
judged (Ok false) legs = shut Outcome.Skipped
judged (Err fault) legs = shut Outcome.Failure

-- A job whose first leg has this number, by those of its run that are before it.
unfoldable pub job_settled : Answers → RunPlan → ℕ → List SettledJob → JobPlan → SettledJob
job_settled answers run first before job =
    if needs_given before job
    then judged (condition_after run before job) (legs_settled answers run job (needs_of run before job) first)
    else unsettled

-- ---- runs

-- The jobs of a run from one on, whose first leg has this number, by those before it.
abbrev pub jobs_from : Answers → RunPlan → ℕ → List SettledJob → List JobPlan → List SettledJob
jobs_from answers run first before [] = []
jobs_from answers run first before (job ∷ jobs) =
    job_settled answers run first before job
    ∷ jobs_from answers run (first + length job.legs) (before ++ job_settled answers run first before job ∷ []) jobs

-- A run, by its jobs: its result is given where those of all jobs are.
abbrev pub run_after : List SettledJob → SettledRun
run_after jobs = record { jobs = jobs; result = option_map jobs_come_to (all_given (map result_of jobs)) }

-- A run, whose first leg has this number.
unfoldable pub run_settled : Answers → ℕ → RunPlan → SettledRun
run_settled answers first run = run_after (jobs_from answers run first [] run.jobs)

-- How many legs some jobs have.
abbrev pub leg_count : List JobPlan → ℕ
leg_count jobs = length (flat_map (λ job. job.legs) jobs)

-- Runs, the first of whose legs has this number.
abbrev pub runs_from : Answers → ℕ → List RunPlan → List SettledRun
runs_from answers first [] = []
runs_from answers first (run ∷ runs) =
    run_settled answers first run ∷ runs_from answers (first + leg_count run.jobs) runs

-- What a plan comes to.
unfoldable pub settled : Plan → Answers → List SettledRun
settled p answers = runs_from answers 0 p.runs
