-- What follows from a board: what has ended, the results of jobs, what is to stop, and the statuses.
use Rattle.std.specs.Prelude.{ℕ, zero, suc, ◌-◌, ◌&&◌, ◌||◌, Bool, true, false, not, List, [], map, length, Option, Some, None, slice_get, nat_le, count_by, if◌then◌else◌}
use Rattle.std.specs.List.{list_all, list_any}
use Rattle.plan_values.specs.Words.{Job, JobPlan, JobState, Leg, LegState, Outcome, Run, RunState, Status}
use Rattle.board_decisions.specs.Place.{JobAt}

-- ---- states

-- a run that is Going
abbrev pub is_going : RunState → Bool
is_going RunState.Going = true
is_going other = false

-- a run that has ended
abbrev pub is_closed : RunState → Bool
is_closed (RunState.Closed result) = true
is_closed other = false

-- a job that was opened
abbrev pub is_open : JobState → Bool
is_open JobState.Open = true
is_open other = false

-- a job that was shut in place of being opened
abbrev pub is_shut : JobState → Bool
is_shut (JobState.Shut result) = true
is_shut other = false

-- a leg that has not asked yet
abbrev pub is_fresh : LegState → Bool
is_fresh LegState.Fresh = true
is_fresh other = false

-- a leg that no worker took, and that has not ended
abbrev pub is_untaken : LegState → Bool
is_untaken (LegState.Running worker in_call) = false
is_untaken (LegState.Ended result tolerated) = false
is_untaken other = true

-- a leg that is Ended
abbrev pub is_ended : LegState → Bool
is_ended (LegState.Ended result tolerated) = true
is_ended other = false

-- waiting, admitted or running: it takes one of the slots that `max_parallel` gives its job
abbrev pub is_under_way : LegState → Bool
is_under_way LegState.Fresh = false
is_under_way (LegState.Ended result tolerated) = false
is_under_way other = true

-- a success
abbrev pub is_success : Outcome → Bool
is_success Outcome.Success = true
is_success other = false

-- a failure
abbrev pub is_failure : Outcome → Bool
is_failure Outcome.Failure = true
is_failure other = false

-- a cancellation
abbrev pub is_cancelled : Outcome → Bool
is_cancelled Outcome.Cancelled = true
is_cancelled other = false

-- ended with a failure that is not tolerated
abbrev pub has_failed : LegState → Bool
has_failed (LegState.Ended result tolerated) = is_failure result && not tolerated
has_failed other = false

-- ended cancelled
abbrev pub was_cancelled : LegState → Bool
was_cancelled (LegState.Ended result tolerated) = is_cancelled result
was_cancelled other = false

-- ---- what has ended

-- a leg has ended where it is Ended, its job is Shut or its run is Closed
abbrev pub leg_has_ended : Run → Job → Leg → Bool
leg_has_ended run job leg = is_closed run.state || is_shut job.state || is_ended leg.state

-- a job has ended where all its legs have
abbrev pub job_has_ended : Run → Job → Bool
job_has_ended run job = list_all (leg_has_ended run job) job.legs

-- all jobs of a run have ended
abbrev pub jobs_have_ended : Run → Bool
jobs_have_ended run = list_all (job_has_ended run) run.jobs

-- ---- results

-- what legs come to: a failure that is not tolerated, else one that was cancelled, else success
abbrev pub legs_result : List Leg → Outcome
legs_result legs =
    if list_any (λ leg. has_failed leg.state) legs then Outcome.Failure
    else (if list_any (λ leg. was_cancelled leg.state) legs then Outcome.Cancelled else Outcome.Success)

-- the result of a job by its run's state and its own: that of its Shut; else, where it never opened and its
-- run is Closed, that of the run; else that of its legs
abbrev pub result_by : RunState → JobState → List Leg → Outcome
result_by run (JobState.Shut result) legs = result
result_by run JobState.Open legs = legs_result legs
result_by (RunState.Closed result) JobState.Unjudged legs = result
result_by run JobState.Unjudged legs = legs_result legs

-- the result of a job of a run
abbrev pub job_result : Run → Job → Outcome
job_result run job = result_by run.state job.state job.legs

-- the results of a run's jobs
abbrev pub job_results : Run → List Outcome
job_results run = map (job_result run) run.jobs

-- whether each job of a run counts as a success so far
abbrev pub all_succeed : Run → Bool
all_succeed run = list_all is_success (job_results run)

-- whether a job of a run failed
abbrev pub is_any_job_failed : Run → Bool
is_any_job_failed run = list_any (λ job. is_failure (job_result run job)) run.jobs

-- whether a job of a run was cancelled
abbrev pub is_any_job_cancelled : Run → Bool
is_any_job_cancelled run = list_any (λ job. is_cancelled (job_result run job)) run.jobs

-- the result of a run that is Going: a job's failure, else that
-- it was told to stop or a job was cancelled, else success
abbrev pub run_result : Run → Outcome
run_result run =
    if is_any_job_failed run then Outcome.Failure
    else (if run.stop || is_any_job_cancelled run then Outcome.Cancelled else Outcome.Success)

-- ---- needs. A job's needs are numbers; the number of its run's first job makes places of them.

-- a truth that may be missing
abbrev pub holds : Option Bool → Bool
holds None = false
holds (Some b) = b

-- the truth at a place; beyond the end there is none
abbrev pub holds_at : List Bool → ℕ → Bool
holds_at tests k = holds (slice_get tests k)

-- the places of the jobs that a job needs, where there is one
abbrev pub places_needed : ℕ → Option JobPlan → List ℕ
places_needed first None = []
places_needed first (Some job) = map (λ need. need - first) job.needs

-- the places of the jobs that the job at a place needs
abbrev pub needs_at : ℕ → List JobPlan → ℕ → List ℕ
needs_at first jobs k = places_needed first (slice_get jobs k)

-- Whether an ancestor of the job at place k passes a test that was made of each job: a job that it needs, or
-- an ancestor of one, over a chain of at most n needs.
abbrev pub some_ancestor : ℕ → List JobPlan → List Bool → ℕ → ℕ → Bool
some_ancestor first jobs tests zero k = false
some_ancestor first jobs tests (suc n) k =
    list_any (λ need. holds_at tests need || some_ancestor first jobs tests n need) (needs_at first jobs k)

-- whether a test holds of an ancestor, over a chain of any length: none is longer than the run has jobs
abbrev pub any_ancestor : ℕ → List JobPlan → List Bool → ℕ → Bool
any_ancestor first jobs tests k = some_ancestor first jobs tests (length jobs) k

-- whether all that a job needs has ended
abbrev pub needs_have_ended : ℕ → Run → JobPlan → Bool
needs_have_ended first run plan =
    list_all (λ need. holds_at (map (job_has_ended run) run.jobs) (need - first)) plan.needs

-- ---- statuses

-- a status by whether an ancestor failed, and whether one did not succeed
abbrev pub status_by : Bool → Bool → Status
status_by true unsuccessful = Status.Failure
status_by false true = Status.Other
status_by false false = Status.Success

-- what the results of a run's jobs make of the status of the job at place k, by its ancestors
abbrev pub ancestors_status : ℕ → List JobPlan → List Outcome → ℕ → Status
ancestors_status first jobs results k =
    status_by (any_ancestor first jobs (map is_failure results) k)
    (any_ancestor first jobs (map (λ result. not (is_success result)) results) k)

-- the status of a job: cancelled where its run is told to stop, else by the results of its ancestors
abbrev pub job_status : ℕ → JobAt → Status
job_status first at =
    if at.run.stop then Status.Cancelled
    else ancestors_status first at.run_plan.jobs (job_results at.run) at.place.job

-- whether the job has as many legs under way as it may have at once
abbrev pub is_full : JobPlan → Job → Bool
is_full plan job = full plan.max_parallel
  where
    full : Option ℕ → Bool
    full None = false
    full (Some most) = nat_le most (count_by (λ leg. is_under_way leg.state) job.legs)
