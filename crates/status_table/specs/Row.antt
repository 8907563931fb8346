-- The table: what each event does to a board, and when it is refused.
use Rattle.std.specs.Prelude.{ℕ, pos, negsuc, zero, suc, ◌-◌, ◌==◌, ◌++◌, ◌&&◌, ◌||◌, Bool, true, false, not, List, [], ◌∷◌, length, nat_le, nat_lt, Option, Some, None, Result, Ok, Err, slice_get, if◌then◌else◌}
use Rattle.plan_values.specs.Words.{Answer, Board, DoneStep, Event, JobState, LegState, Member, Outcome, Plan, Reply, Run, RunState, StepCall, StepPlan, ValueFault, What, is_well_formed}
use Rattle.board_decisions.specs.declared.entrance.Entrance.{Entrance}
use Rattle.board_decisions.specs.declared.place.JobPlace.{JobPlace}
use Rattle.board_decisions.specs.declared.place.LegPlace.{LegPlace}
use Rattle.board_decisions.specs.Decisions.{job_condition, is_stopping, leg_result, step_decision, step_tolerates, job_tolerates, leg_outputs, run_entrance, leg_entrance}
use Rattle.board_decisions.specs.Derived.{is_going, is_closed, is_open, is_fresh, is_untaken, job_status, is_full, needs_have_ended, jobs_have_ended, run_result, is_failure}
use Rattle.board_decisions.specs.Place.{RunAt, JobAt, LegAt, run_at, job_at, leg_at}
use Rattle.status_table.specs.declared.fault.EventFault.{EventFault}
use Rattle.status_table.specs.Change.{with_job, with_leg}
use Rattle.status_table.specs.Groups.{run_standing, leg_standing, closed, dropped, stopped, moved, enters, leaves}

-- a row of the table: the board after the event and the reply to it, or its refusal
abbrev pub Row : Type 0
Row = Result (Board × Reply) EventFault

-- a reply that tells of nothing but what happened
abbrev pub reply : What → Reply
reply happened = record { what = happened; admitted = None; displaced = None; stopped = None }

-- ---- changes

-- the board with a job in a state
abbrev pub job_state_set : Board → JobPlace → JobState → Board
job_state_set b place state = with_job b place (λ job. record job { state = state })

-- the board with a leg in a state
abbrev pub leg_state_set : Board → LegPlace → LegState → Board
leg_state_set b place state = with_leg b place (λ leg. record leg { state = state })

-- the leg is idle again, with one more step done
abbrev pub step_done : Board → LegPlace → ℕ → DoneStep → Board
step_done b place worker done =
    with_leg b place (λ leg.
    record leg { state = LegState.Running worker false; steps = leg.steps ++ done ∷ [] })

-- ---- Open: a run that is New, and was not told to stop, enters its workflow's group

-- what comes of a run that enters; a fault of the group's text ends it
abbrev pub run_enters : Board → ℕ → Result (Option Entrance) ValueFault → Row
run_enters b r (Ok group) = Ok (enters b (Member.Run r) None group)
run_enters b r (Err f) = Ok (closed b r Outcome.Failure, moved)

-- what comes of opening a run, by its state and whether it was told to stop
abbrev pub open_run : Board → ℕ → RunAt → RunState → Bool → Row
open_run b r at RunState.New false = run_enters b r (run_entrance at)
open_run b r at RunState.New true = Err EventFault.Stopping
open_run b r at RunState.Waiting stop = Err EventFault.WrongState
open_run b r at RunState.Going stop = Err EventFault.WrongState
open_run b r at (RunState.Closed result) stop = Err EventFault.WrongState

-- what comes of opening a run, where there is one
abbrev pub open_found : Board → ℕ → Option RunAt → Row
open_found b r None = Err EventFault.NoSuch
open_found b r (Some at) = open_run b r at at.run.state at.run.stop

-- the row of Open, for the run with a number
abbrev pub open_row : Plan → Board → ℕ → Row
open_row p b r = open_found b r (run_at p b r)

-- ---- Judge: a job whose needs have ended is opened where its condition is true, and else shut

-- what a job is shut with where its condition is not true
abbrev pub shut_result : Bool → Outcome
shut_result true = Outcome.Cancelled
shut_result false = Outcome.Skipped

-- the state of a job whose run was told to stop or not, by the value of its condition
abbrev pub judged_state : Bool → Result Bool ValueFault → JobState
judged_state stop (Ok true) = JobState.Open
judged_state stop (Ok false) = JobState.Shut (shut_result stop)
judged_state stop (Err f) = JobState.Shut Outcome.Failure

-- the number of the first job of the run that a job is in
abbrev pub first_of : ℕ → JobAt → ℕ
first_of j at = j - at.place.job

-- the state into which a job is judged, or why it is not
abbrev pub judgement_ready : ℕ → JobAt → Result JobState EventFault
judgement_ready j at =
    if needs_have_ended (first_of j at) at.run at.plan
    then Ok (judged_state at.run.stop (job_condition at (job_status (first_of j at) at)))
    else Err EventFault.NeedsOpen

-- the state into which a job is judged, where the run is Going and the job is Unjudged
abbrev pub judgement_by : ℕ → JobAt → RunState → JobState → Result JobState EventFault
judgement_by j at RunState.Going JobState.Unjudged = judgement_ready j at
judgement_by j at RunState.Going JobState.Open = Err EventFault.WrongState
judgement_by j at RunState.Going (JobState.Shut result) = Err EventFault.WrongState
judgement_by j at RunState.New state = Err EventFault.WrongState
judgement_by j at RunState.Waiting state = Err EventFault.WrongState
judgement_by j at (RunState.Closed result) state = Err EventFault.WrongState

-- the state into which a job is judged, or why it is not, by the states that it and its run are in
abbrev pub judgement : ℕ → JobAt → Result JobState EventFault
judgement j at = judgement_by j at at.run.state at.job.state

-- the job has that state
abbrev pub judge_job : Board → JobPlace → Result JobState EventFault → Row
judge_job b place (Ok state) = Ok (job_state_set b place state, moved)
judge_job b place (Err f) = Err f

-- what comes of judging a job, where there is one
abbrev pub judge_found : Board → ℕ → Option JobAt → Row
judge_found b j None = Err EventFault.NoSuch
judge_found b j (Some at) = judge_job b at.place (judgement j at)

-- the row of Judge, for the job with a number
abbrev pub judge_row : Plan → Board → ℕ → Row
judge_row p b j = judge_found b j (job_at p b j)

-- ---- Ask: a leg that is Fresh, of an Open job, enters its job's group

-- whether a leg may ask: its run is Going, its job Open, and it is Fresh
abbrev pub may_ask : LegAt → Bool
may_ask at = is_going at.run.state && is_open at.job.state && is_fresh at.leg.state

-- what comes of a leg that enters; a fault of the group's text ends it with a failure that is not tolerated
abbrev pub leg_enters : Board → ℕ → LegAt → Result (Option Entrance) ValueFault → Row
leg_enters b l at (Ok group) = Ok (enters b (Member.Leg l) (Some at.place.run) group)
leg_enters b l at (Err f) = Ok (dropped b l Outcome.Failure, moved)

-- what comes of a leg that asks
abbrev pub ask_leg : Board → ℕ → LegAt → Row
ask_leg b l at =
    if not (may_ask at) then Err EventFault.WrongState
    else (if is_full at.job_plan at.job then Err EventFault.SlotsFull
    else (if is_stopping at then Err EventFault.Stopping else leg_enters b l at (leg_entrance at)))

-- what comes of a leg that asks, where there is one
abbrev pub ask_found : Board → ℕ → Option LegAt → Row
ask_found b l None = Err EventFault.NoSuch
ask_found b l (Some at) = ask_leg b l at

-- the row of Ask, for the leg with a number
abbrev pub ask_row : Plan → Board → ℕ → Row
ask_row p b l = ask_found b l (leg_at p b l)

-- ---- Drop: a leg that is to stop and has no worker ends cancelled, and leaves its group

-- whether a leg may be dropped: its run is Going, its job Open, and no worker took it
abbrev pub may_drop : LegAt → Bool
may_drop at = is_going at.run.state && is_open at.job.state && is_untaken at.leg.state

-- what comes of dropping a leg
abbrev pub drop_leg : Board → ℕ → LegAt → Row
drop_leg b l at =
    if not (may_drop at) then Err EventFault.WrongState
    else (if is_stopping at then Ok (leaves b (leg_standing at.leg) (dropped b l Outcome.Cancelled))
    else Err EventFault.NotStopping)

-- what comes of dropping a leg, where there is one
abbrev pub drop_found : Board → ℕ → Option LegAt → Row
drop_found b l None = Err EventFault.NoSuch
drop_found b l (Some at) = drop_leg b l at

-- the row of Drop, for the leg with a number
abbrev pub drop_row : Plan → Board → ℕ → Row
drop_row p b l = drop_found b l (leg_at p b l)

-- ---- Take: a worker takes a leg that is Admitted

-- what comes of taking a leg, by its state
abbrev pub take_leg : Board → ℕ → LegAt → LegState → Row
take_leg b worker at LegState.Fresh = Err EventFault.WrongState
take_leg b worker at LegState.Waiting = Err EventFault.WrongState
take_leg b worker at LegState.Admitted =
    if is_stopping at then Err EventFault.Stopping
    else Ok (leg_state_set b at.place (LegState.Running worker false), moved)
take_leg b worker at (LegState.Running other in_call) = Err EventFault.WrongState
take_leg b worker at (LegState.Ended result tolerated) = Err EventFault.WrongState

-- what comes of taking a leg, where there is one
abbrev pub take_found : Board → ℕ → Option LegAt → Row
take_found b worker None = Err EventFault.NoSuch
take_found b worker (Some at) = take_leg b worker at at.leg.state

-- the row of Take, for the leg with a number
abbrev pub take_row : Plan → Board → ℕ → ℕ → Row
take_row p b worker l = take_found b worker (leg_at p b l)

-- ---- Begin: the worker of an idle leg begins its next step

-- the worker of a leg that is running and idle
abbrev pub idle_owner : LegState → Option ℕ
idle_owner LegState.Fresh = None
idle_owner LegState.Waiting = None
idle_owner LegState.Admitted = None
idle_owner (LegState.Running owner true) = None
idle_owner (LegState.Running owner false) = Some owner
idle_owner (LegState.Ended result tolerated) = None

-- the next step, if there is one left
abbrev pub next_step : LegAt → Option StepPlan
next_step at = slice_get at.job_plan.steps (length at.leg.steps)

-- What beginning a step comes to: a call, a step that is
-- skipped, or one that failed since a text has no value.
pub data Beginning : Type 0 where
  calls : StepCall → Beginning
  skips : Beginning
  faults : ValueFault → Beginning

-- what is decided of a step
abbrev pub decided : Result (Option StepCall) ValueFault → Beginning
decided (Ok None) = skips
decided (Ok (Some call)) = calls call
decided (Err f) = faults f

-- what beginning a step comes to, or why it is not begun, by the worker of the leg and the step
abbrev pub beginning_by : ℕ → ℕ → LegAt → Option ℕ → Option StepPlan → Result Beginning EventFault
beginning_by worker l at None step = Err EventFault.WrongState
beginning_by worker l at (Some owner) None = Err EventFault.WrongState
beginning_by worker l at (Some owner) (Some step) =
    if worker == owner then Ok (decided (step_decision l at step)) else Err EventFault.OtherWorker

-- what beginning the next step of a leg comes to, or why it is not begun
abbrev pub beginning : ℕ → ℕ → LegAt → Result Beginning EventFault
beginning worker l at = beginning_by worker l at (idle_owner at.leg.state) (next_step at)

-- how a failure counts for a step: one that may be passed over counts as a success
abbrev pub failure_of : LegAt → Option StepPlan → Outcome
failure_of at None = Outcome.Failure
failure_of at (Some step) = if step_tolerates at step then Outcome.Success else Outcome.Failure

-- a step that was skipped
abbrev pub skipped_step : DoneStep
skipped_step = record { outcome = Outcome.Skipped; conclusion = Outcome.Skipped; outputs = []; env = [] }

-- a step that failed before its call
abbrev pub failed_step : LegAt → DoneStep
failed_step at =
    record { outcome = Outcome.Failure; conclusion = failure_of at (next_step at); outputs = []; env = [] }

-- the leg is in a call, or has one more step done
abbrev pub begin_leg : Board → ℕ → LegAt → Result Beginning EventFault → Row
begin_leg b worker at (Ok (calls call)) =
    Ok (leg_state_set b at.place (LegState.Running worker true), reply (What.Call call))
begin_leg b worker at (Ok skips) = Ok (step_done b at.place worker skipped_step, reply What.Skipped)
begin_leg b worker at (Ok (faults f)) =
    Ok (step_done b at.place worker (failed_step at), reply (What.Faulted f))
begin_leg b worker at (Err f) = Err f

-- what comes of beginning a step of a leg, where there is one
abbrev pub begin_found : Board → ℕ → ℕ → Option LegAt → Row
begin_found b worker l None = Err EventFault.NoSuch
begin_found b worker l (Some at) = begin_leg b worker at (beginning worker l at)

-- the row of Begin, for the leg with a number
abbrev pub begin_row : Plan → Board → ℕ → ℕ → Row
begin_row p b worker l = begin_found b worker l (leg_at p b l)

-- ---- End: the call of a leg is answered

-- the worker of a leg that is running and in a call
abbrev pub calling_owner : LegState → Option ℕ
calling_owner LegState.Fresh = None
calling_owner LegState.Waiting = None
calling_owner LegState.Admitted = None
calling_owner (LegState.Running owner true) = Some owner
calling_owner (LegState.Running owner false) = None
calling_owner (LegState.Ended result tolerated) = None

-- success exactly for an exit with code 0
abbrev pub outcome_of : Answer → Outcome
outcome_of (Answer.Exit (pos zero) outputs env) = Outcome.Success
outcome_of (Answer.Exit (pos (suc n)) outputs env) = Outcome.Failure
outcome_of (Answer.Exit (negsuc n) outputs env) = Outcome.Failure
outcome_of Answer.NotStarted = Outcome.Failure
outcome_of Answer.BadOutput = Outcome.Failure

-- the outputs of an exit are kept, whatever its code
abbrev pub outputs_of : Answer → List (List ℕ × List ℕ)
outputs_of (Answer.Exit code outputs env) = outputs
outputs_of Answer.NotStarted = []
outputs_of Answer.BadOutput = []

-- so are the variables that it set
abbrev pub set_by : Answer → List (List ℕ × List ℕ)
set_by (Answer.Exit code outputs env) = env
set_by Answer.NotStarted = []
set_by Answer.BadOutput = []

-- how an outcome counts for a step
abbrev pub conclusion_of : LegAt → Outcome → Outcome
conclusion_of at Outcome.Success = Outcome.Success
conclusion_of at Outcome.Failure = failure_of at (next_step at)
conclusion_of at Outcome.Cancelled = Outcome.Cancelled
conclusion_of at Outcome.Skipped = Outcome.Skipped

-- the step that an answer ends
abbrev pub answered_step : LegAt → Answer → DoneStep
answered_step at a =
    record {
      outcome = outcome_of a;
      conclusion = conclusion_of at (outcome_of a);
      outputs = outputs_of a;
      env = set_by a;
    }

-- the step that is done by an answer, or why it is not, by the worker whose call is open
abbrev pub ending_by : ℕ → LegAt → Answer → Option ℕ → Result DoneStep EventFault
ending_by worker at a None = Err EventFault.WrongState
ending_by worker at a (Some owner) =
    if not (worker == owner) then Err EventFault.OtherWorker
    else (if not (is_well_formed a) then Err EventFault.BadAnswer else Ok (answered_step at a))

-- the step that is done by an answer, or why it is not
abbrev pub ending : ℕ → LegAt → Answer → Result DoneStep EventFault
ending worker at a = ending_by worker at a (calling_owner at.leg.state)

-- the leg has one more step done
abbrev pub end_leg : Board → ℕ → LegAt → Result DoneStep EventFault → Row
end_leg b worker at (Ok done) = Ok (step_done b at.place worker done, moved)
end_leg b worker at (Err f) = Err f

-- what comes of ending a step of a leg, where there is one
abbrev pub end_found : Board → ℕ → Answer → Option LegAt → Row
end_found b worker a None = Err EventFault.NoSuch
end_found b worker a (Some at) = end_leg b worker at (ending worker at a)

-- the row of End, for the leg with a number
abbrev pub end_row : Plan → Board → ℕ → ℕ → Answer → Row
end_row p b worker l a = end_found b worker a (leg_at p b l)

-- ---- Finish: a leg whose steps are all done ends with its status

-- a failure is tolerated where the job may fail
abbrev pub ended_state : LegAt → Outcome → LegState
ended_state at result = LegState.Ended result (is_failure result && job_tolerates at)

-- the state in which a leg ends, or why it does not, by the worker that has it idle
abbrev pub finishing_by : ℕ → LegAt → Option ℕ → Result LegState EventFault
finishing_by worker at None = Err EventFault.WrongState
finishing_by worker at (Some owner) =
    if not (worker == owner) then Err EventFault.OtherWorker
    else (if nat_lt (length at.leg.steps) (length at.job_plan.steps) then Err EventFault.StepsLeft
    else Ok (ended_state at (leg_result at)))

-- the state in which a leg ends, or why it does not
abbrev pub finishing : ℕ → LegAt → Result LegState EventFault
finishing worker at = finishing_by worker at (idle_owner at.leg.state)

-- the leg has a state and its outputs
abbrev pub leg_set : Board → LegPlace → LegState → List (List ℕ × List ℕ) → Board
leg_set b place state outputs = with_leg b place (λ leg. record leg { state = state; outputs = outputs })

-- the board with a leg ended, last of all
abbrev pub leg_ended : Board → LegPlace → ℕ → LegState → List (List ℕ × List ℕ) → Board
leg_ended b place l state outputs = record (leg_set b place state outputs) { ends = b.ends ++ l ∷ [] }

-- the leg has ended, last of all, and leaves its group
abbrev pub finish_leg : Board → ℕ → LegAt → Result LegState EventFault → Row
finish_leg b l at (Ok state) =
    Ok (leaves b (leg_standing at.leg) (leg_ended b at.place l state (leg_outputs at)))
finish_leg b l at (Err f) = Err f

-- what comes of finishing a leg, where there is one
abbrev pub finish_found : Board → ℕ → ℕ → Option LegAt → Row
finish_found b worker l None = Err EventFault.NoSuch
finish_found b worker l (Some at) = finish_leg b l at (finishing worker at)

-- the row of Finish, for the leg with a number
abbrev pub finish_row : Plan → Board → ℕ → ℕ → Row
finish_row p b worker l = finish_found b worker l (leg_at p b l)

-- ---- Close: a run whose jobs have ended, or that is to stop before it was Going, ends and leaves its group

-- the run has ended, and leaves its group
abbrev pub run_closes : Board → ℕ → Run → Outcome → Row
run_closes b r run result = Ok (leaves b (run_standing run) (closed b r result))

-- what comes of closing a run that is not Going, by whether it was told to stop
abbrev pub close_waiting : Board → ℕ → Run → Bool → Row
close_waiting b r run true = run_closes b r run Outcome.Cancelled
close_waiting b r run false = Err EventFault.NotStopping

-- what comes of closing a run, by its state
abbrev pub close_run : Board → ℕ → Run → RunState → Row
close_run b r run RunState.New = close_waiting b r run run.stop
close_run b r run RunState.Waiting = close_waiting b r run run.stop
close_run b r run RunState.Going =
    if jobs_have_ended run then run_closes b r run (run_result run) else Err EventFault.NeedsOpen
close_run b r run (RunState.Closed result) = Err EventFault.WrongState

-- what comes of closing a run, where there is one
abbrev pub close_found : Board → ℕ → Option RunAt → Row
close_found b r None = Err EventFault.NoSuch
close_found b r (Some at) = close_run b r at.run at.run.state

-- the row of Close, for the run with a number
abbrev pub close_row : Plan → Board → ℕ → Row
close_row p b r = close_found b r (run_at p b r)

-- ---- Cancel: a run that has not ended is told to stop, once

-- what comes of cancelling a run
abbrev pub cancel_run : Board → ℕ → Run → Row
cancel_run b r run =
    if is_closed run.state || run.stop then Err EventFault.WrongState
    else Ok (stopped b true (Member.Run r), moved)

-- what comes of cancelling a run, where there is one
abbrev pub cancel_found : Board → ℕ → Option RunAt → Row
cancel_found b r None = Err EventFault.NoSuch
cancel_found b r (Some at) = cancel_run b r at.run

-- the row of Cancel, for the run with a number
abbrev pub cancel_row : Plan → Board → ℕ → Row
cancel_row p b r = cancel_found b r (run_at p b r)

-- ---- the table

-- the row of an event that one of the workers reports
abbrev pub event_row : Plan → Board → ℕ → Event → Row
event_row p b worker (Event.Open r) = open_row p b r
event_row p b worker (Event.Judge j) = judge_row p b j
event_row p b worker (Event.Ask l) = ask_row p b l
event_row p b worker (Event.Drop l) = drop_row p b l
event_row p b worker (Event.Take l) = take_row p b worker l
event_row p b worker (Event.Begin l) = begin_row p b worker l
event_row p b worker (Event.End l a) = end_row p b worker l a
event_row p b worker (Event.Finish l) = finish_row p b worker l
event_row p b worker (Event.Close r) = close_row p b r
event_row p b worker (Event.Cancel r) = cancel_row p b r

-- The row of an event that a worker reports: there are the workers 0 to 15.
abbrev pub row : Plan → Board → ℕ → Event → Row
row p b worker e = if nat_le worker 15 then event_row p b worker e else Err EventFault.NoSuch
