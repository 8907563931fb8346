-- Which facts made a fact so: what is asked next where something is asked. The board after a record keeps what has ended
-- as it was, and so tells it of all but what the notes say.
use Rattle.std.specs.Prelude.{ℕ, suc, ◌-◌, ◌++◌, ◌==◌, ◌&&◌, Bool, true, false, not, List, [], ◌∷◌, length, map, Option, Some, None, slice_get, if◌then◌else◌}
use Rattle.status_table.specs.Words.{DoneStep, Job, JobAt, JobPlan, JobState, Leg, LegAt, LegState, Member, Outcome, Run, RunAt, first_number, first_place, has_failed, holds_at, is_cancelled, is_ended, is_failure, is_full, is_going, is_open, is_stopping, is_under_way, job_at, job_has_ended, job_result, leg_at, legs_result, run_at, was_cancelled}
use Rattle.why_causes.specs.declared.question.Question.{Question}
use Rattle.why_causes.specs.declared.sought.Sought.{Sought}
use Rattle.why_facts.specs.Ancestors.{first_unsuccessful}
use Rattle.why_facts.specs.Stops.{cause_of_stop}
use Rattle.why_facts.specs.declared.fact.JobFact.{JobFact}
use Rattle.why_facts.specs.declared.fact.MemberFact.{MemberFact}
use Rattle.why_facts.specs.declared.fact.StepFact.{StepFact}
use Rattle.why_facts.specs.declared.fact.StopCause.{StopCause}
use Rattle.why_facts.specs.declared.notes.JobNote.{JobNote}
use Rattle.why_facts.specs.declared.notes.JobNotes.{JobNotes}
use Rattle.why_facts.specs.declared.notes.LegNotes.{LegNotes}
use Rattle.why_facts.specs.declared.notes.MemberNote.{MemberNote}
use Rattle.why_facts.specs.declared.notes.RunNotes.{RunNotes}
use Rattle.why_facts.specs.declared.notes.StepNote.{StepNote}
use Rattle.why_notes.specs.Account.{Account}

-- ---- what is noted

abbrev pub run_last : Option RunNotes → Option MemberNote
run_last None = None
run_last (Some notes) = notes.last

abbrev pub job_last : Option JobNotes → Option JobNote
job_last None = None
job_last (Some notes) = notes.last

abbrev pub first_leg : Option JobNotes → ℕ
first_leg None = 0
first_leg (Some notes) = notes.first_leg

abbrev pub leg_last : Option LegNotes → Option MemberNote
leg_last None = None
leg_last (Some notes) = notes.last

abbrev pub step_last : Option LegNotes → ℕ → Option StepNote
step_last None s = None
step_last (Some notes) s = slice_get notes.steps s

-- ---- questions

-- the question about a run or a leg
abbrev pub about : Member → Question
about (Member.Run r) = Question.Run r
about (Member.Leg l) = Question.Leg l

-- who told a run or a leg to stop, where it was told to
abbrev pub stop_asked : Member → Bool → List Question
stop_asked who false = []
stop_asked who true = Question.Stop who ∷ []

-- why the leg with a number is to stop, which is of the run with a number
abbrev pub cause_asked : ℕ → ℕ → StopCause → List Question
cause_asked r l StopCause.Told = Question.Stop (Member.Leg l) ∷ []
cause_asked r l (StopCause.FailFast failed) = Question.Leg failed ∷ []
cause_asked r l StopCause.RunTold = Question.Stop (Member.Run r) ∷ []

-- the items that pass a test, by their numbers, of which the first is n
abbrev pub asked : {A : Type 0} → (ℕ → Question) → ℕ → (A → Bool) → List A → List Question
asked ask n test [] = []
asked ask n test (x ∷ xs) =
    if test x then ask n ∷ asked ask (suc n) test xs else asked ask (suc n) test xs

-- ---- jobs and legs that count

-- a job was opened or shut
abbrev pub is_judged : JobState → Bool
is_judged JobState.Unjudged = false
is_judged JobState.Open = true
is_judged (JobState.Shut result) = true

-- a result that makes another so: only failures and cancellations do
abbrev pub counts : Outcome → Outcome → Bool
counts Outcome.Success result = false
counts Outcome.Failure result = is_failure result
counts Outcome.Cancelled result = is_cancelled result
counts Outcome.Skipped result = false

-- the jobs of a run that are looked for
abbrev pub job_sought : Sought → Run → Job → Bool
job_sought Sought.Unended run job = not (job_has_ended run job)
job_sought Sought.UnderWay run job = false
job_sought (Sought.Counting result) run job = is_judged job.state && counts result (job_result run job)

-- ended with a failure that is tolerated
abbrev pub was_tolerated : LegState → Bool
was_tolerated LegState.Fresh = false
was_tolerated LegState.Waiting = false
was_tolerated LegState.Admitted = false
was_tolerated (LegState.Running worker in_call) = false
was_tolerated (LegState.Ended result tolerated) = tolerated

-- a leg with which a job comes to a result: to success though it failed
abbrev pub leg_counts : Outcome → LegState → Bool
leg_counts Outcome.Success state = was_tolerated state
leg_counts Outcome.Failure state = has_failed state
leg_counts Outcome.Cancelled state = was_cancelled state
leg_counts Outcome.Skipped state = false

-- the legs of a job that are looked for
abbrev pub leg_sought : Sought → Leg → Bool
leg_sought Sought.Unended leg = not (is_ended leg.state)
leg_sought Sought.UnderWay leg = is_under_way leg.state
leg_sought (Sought.Counting result) leg = leg_counts result leg.state

-- ---- a run

-- the number of the first of some jobs
abbrev pub first_job : List JobPlan → ℕ
first_job [] = 0
first_job (job ∷ jobs) = job.number

abbrev pub jobs_asked : RunAt → Sought → List Question
jobs_asked at wanted = asked Question.Job (first_job at.plan.jobs) (job_sought wanted at.run) at.run.jobs

-- of a run that is closed so: that it was told to stop, where it was cancelled, and the jobs that count
abbrev pub closed_asked : ℕ → RunAt → Outcome → List Question
closed_asked r at result =
    stop_asked (Member.Run r) (at.run.stop && is_cancelled result) ++ jobs_asked at (Sought.Counting result)

-- of a run that is Going: that it was told to stop, and the jobs that have not ended
abbrev pub going_asked : ℕ → RunAt → List Question
going_asked r at = stop_asked (Member.Run r) at.run.stop ++ jobs_asked at Sought.Unended

-- by what became of the run last
abbrev pub run_fact_asked : ℕ → RunAt → MemberFact → List Question
run_fact_asked r at MemberFact.Admitted = going_asked r at
run_fact_asked r at (MemberFact.Follows before) = going_asked r at
run_fact_asked r at (MemberFact.Waits holds) = about holds ∷ stop_asked (Member.Run r) at.run.stop
run_fact_asked r at (MemberFact.Closed result) = closed_asked r at result
run_fact_asked r at _ = []

abbrev pub run_noted_asked : ℕ → RunAt → Option MemberNote → List Question
run_noted_asked r at None = stop_asked (Member.Run r) at.run.stop
run_noted_asked r at (Some note) = run_fact_asked r at note.fact

abbrev pub run_asked : Account → ℕ → Option RunAt → List Question
run_asked a r None = []
run_asked a r (Some at) = run_noted_asked r at (run_last (slice_get a.notes.runs r))

-- ---- a job

-- the needs of a job that have not ended
abbrev pub needs_asked : ℕ → Run → List ℕ → List Question
needs_asked first run [] = []
needs_asked first run (need ∷ needs) =
    if holds_at (map (job_has_ended run) run.jobs) (need - first) then needs_asked first run needs
    else Question.Job need ∷ needs_asked first run needs

-- the ancestors of a job that had no success and are met first
abbrev pub unsuccessful_asked : ℕ → JobAt → List Question
unsuccessful_asked first at = map Question.Job (first_unsuccessful first at)

-- by what became of a job that was shut
abbrev pub shut_asked : ℕ → JobAt → Option JobNote → List Question
shut_asked first at None = []
shut_asked first at (Some note) = fact_asked note.fact
  where
    fact_asked : JobFact → List Question
    fact_asked JobFact.Opened = []
    fact_asked JobFact.RunStopped = Question.Stop (Member.Run at.place.run) ∷ []
    fact_asked JobFact.Unsuccessful = unsuccessful_asked first at
    fact_asked JobFact.Untrue = []
    fact_asked (JobFact.Faulted fault) = []

-- the legs of a job that was opened: those that have not ended, or with which it comes to its result
abbrev pub opened_sought : Run → Job → Sought
opened_sought run job = if job_has_ended run job then Sought.Counting (legs_result job.legs) else Sought.Unended

abbrev pub job_state_asked : JobAt → Option JobNotes → JobState → List Question
job_state_asked at notes JobState.Unjudged =
    if is_going at.run.state then needs_asked (first_number at) at.run at.plan.needs
    else Question.Run at.place.run ∷ []
job_state_asked at notes JobState.Open =
    asked Question.Leg (first_leg notes) (leg_sought (opened_sought at.run at.job)) at.job.legs
job_state_asked at notes (JobState.Shut result) = shut_asked (first_number at) at (job_last notes)

abbrev pub job_asked : Account → ℕ → Option JobAt → List Question
job_asked a j None = []
job_asked a j (Some at) = job_state_asked at (slice_get a.notes.jobs j) at.job.state

-- ---- a leg

-- why a leg is to stop, where it is
abbrev pub stopping_asked : ℕ → LegAt → List Question
stopping_asked l at = if is_stopping at then cause_asked at.place.run l (cause_of_stop l at) else []

-- the legs that take all the slots of a leg's job, where they do
abbrev pub slots_asked : ℕ → LegAt → List Question
slots_asked l at =
    if is_full at.job_plan at.job
    then asked Question.Leg (l - at.place.leg) (leg_sought Sought.UnderWay) at.job.legs else []

-- of a leg that has not asked: its job, where that is not open; else why it will be dropped, and the legs that take all slots
abbrev pub fresh_asked : ℕ → LegAt → List Question
fresh_asked l at =
    if not (is_going at.run.state && is_open at.job.state) then Question.Job at.job_plan.number ∷ []
    else stopping_asked l at ++ slots_asked l at

-- a leg is in the call of a step
abbrev pub is_in_call : LegState → Bool
is_in_call LegState.Fresh = false
is_in_call LegState.Waiting = false
is_in_call LegState.Admitted = false
is_in_call (LegState.Running worker in_call) = in_call
is_in_call (LegState.Ended result tolerated) = false

-- the step that is called, if one is
abbrev pub call_asked : ℕ → Leg → List Question
call_asked l leg = if is_in_call leg.state then Question.Step l (length leg.steps) ∷ [] else []

-- of a leg that runs: the step that is called, and that the leg was told to stop
abbrev pub taken_asked : ℕ → Leg → List Question
taken_asked l leg = call_asked l leg ++ stop_asked (Member.Leg l) leg.stop

-- the step at a place is in its call
abbrev pub is_called : ℕ → Leg → Bool
is_called s leg = is_in_call leg.state && (s == length leg.steps)

-- the step at a place, if there is one
abbrev pub step_asked : ℕ → Option ℕ → List Question
step_asked l None = []
step_asked l (Some s) = Question.Step l s ∷ []

-- the first step that counts as a failure
abbrev pub failure_asked : ℕ → List DoneStep → List Question
failure_asked l steps = step_asked l (first_place 0 (λ step. is_failure step.conclusion) steps)

-- of a leg that was played to its end
abbrev pub finished_asked : ℕ → LegAt → Outcome → List Question
finished_asked l at result = if is_failure result then failure_asked l at.leg.steps else []

-- by what became of the leg last
abbrev pub leg_fact_asked : ℕ → LegAt → MemberFact → List Question
leg_fact_asked l at (MemberFact.Waits holds) = about holds ∷ stop_asked (Member.Leg l) at.leg.stop
leg_fact_asked l at MemberFact.Admitted = stop_asked (Member.Leg l) at.leg.stop
leg_fact_asked l at (MemberFact.Follows before) = stop_asked (Member.Leg l) at.leg.stop
leg_fact_asked l at MemberFact.Taken = taken_asked l at.leg
leg_fact_asked l at (MemberFact.Finished result) = finished_asked l at result
leg_fact_asked l at (MemberFact.Stopped cause) = cause_asked at.place.run l cause
leg_fact_asked l at _ = []

abbrev pub leg_noted_asked : ℕ → LegAt → Option MemberNote → List Question
leg_noted_asked l at None = fresh_asked l at
leg_noted_asked l at (Some note) = leg_fact_asked l at note.fact

abbrev pub leg_asked : Account → ℕ → Option LegAt → List Question
leg_asked a l None = []
leg_asked a l (Some at) = leg_noted_asked l at (leg_last (slice_get a.notes.legs l))

-- ---- a step

-- by what became of the step
abbrev pub step_fact_asked : ℕ → ℕ → StepFact → List Question
step_fact_asked r l (StepFact.Stopping cause) = cause_asked r l cause
step_fact_asked r l (StepFact.AfterFailure s) = Question.Step l s ∷ []
step_fact_asked r l _ = []

-- of a step that is not done: nothing while it is called, and else its leg
abbrev pub undone_asked : ℕ → ℕ → LegAt → List Question
undone_asked l s at = if is_called s at.leg then [] else Question.Leg l ∷ []

abbrev pub step_noted_asked : ℕ → ℕ → LegAt → Option StepNote → List Question
step_noted_asked l s at None = undone_asked l s at
step_noted_asked l s at (Some note) = step_fact_asked at.place.run l note.fact

abbrev pub step_found_asked : Account → ℕ → ℕ → Option LegAt → List Question
step_found_asked a l s None = []
step_found_asked a l s (Some at) = step_noted_asked l s at (step_last (slice_get a.notes.legs l) s)

-- ---- all

-- what made a fact so
abbrev pub causes : Account → Question → List Question
causes a (Question.Run r) = run_asked a r (run_at a.plan a.board r)
causes a (Question.Job j) = job_asked a j (job_at a.plan a.board j)
causes a (Question.Leg l) = leg_asked a l (leg_at a.plan a.board l)
causes a (Question.Step l s) = step_found_asked a l s (leg_at a.plan a.board l)
causes a (Question.Stop who) = []
