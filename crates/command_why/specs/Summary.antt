-- How runs, jobs, legs and steps are, as data: the state, the line at which it became so, and what made it so.
use Rattle.std.specs.Prelude.{ℕ, ◌&&◌, Bool, true, false, Option, Some, None, slice_get, if◌then◌else◌}
use Rattle.status_table.specs.Words.{DoneStep, Job, JobAt, JobState, LegAt, LegState, Outcome, Run, RunAt, RunState, is_failure, is_success, job_at, job_has_ended, job_result, leg_at, run_at}
use Rattle.why_causes.specs.Causes.{is_called, job_last, leg_last, run_last, step_last, was_tolerated}
use Rattle.why_causes.specs.declared.question.Question.{Question}
use Rattle.why_facts.specs.declared.notes.JobNote.{JobNote}
use Rattle.why_facts.specs.declared.notes.MemberNote.{MemberNote}
use Rattle.why_facts.specs.declared.notes.StepNote.{StepNote}
use Rattle.why_facts.specs.declared.notes.StopNote.{StopNote}
use Rattle.why_notes.specs.Account.{Account}
use Rattle.command_why.specs.Words.{call_line, stop_of}
use Rattle.command_why.specs.declared.summary.Phase.{Phase}
use Rattle.command_why.specs.declared.summary.Reason.{Reason}
use Rattle.command_why.specs.declared.summary.Summary.{Summary}

-- a phase of which nothing more is noted
abbrev pub bare : Phase → Summary
bare phase = record { phase = phase; tolerated = false; line = None; reason = Reason.Nothing }

-- ---- runs

abbrev pub run_phase : RunState → Phase
run_phase RunState.New = Phase.Queued
run_phase RunState.Waiting = Phase.Waiting
run_phase RunState.Going = Phase.InProgress
run_phase (RunState.Closed result) = Phase.Completed result

-- a run or a leg, by what became of it last
abbrev pub member_summary : Phase → Bool → Option MemberNote → Summary
member_summary phase tolerated None = record { phase = phase; tolerated = tolerated; line = None; reason = Reason.Nothing }
member_summary phase tolerated (Some note) =
    record { phase = phase; tolerated = tolerated; line = Some note.line; reason = Reason.Member note.fact }

abbrev pub run_summary : Account → ℕ → Option RunAt → Summary
run_summary a r None = bare Phase.Unknown
run_summary a r (Some at) = member_summary (run_phase at.run.state) false (run_last (slice_get a.notes.runs r))

-- ---- jobs

-- a job whose legs have not all ended
abbrev pub open_phase : JobState → Phase
open_phase JobState.Unjudged = Phase.Queued
open_phase JobState.Open = Phase.InProgress
open_phase (JobState.Shut result) = Phase.Completed result

-- its result, once all its legs have ended
abbrev pub job_phase : Run → Job → Phase
job_phase run job = if job_has_ended run job then Phase.Completed (job_result run job) else open_phase job.state

abbrev pub job_noted : Phase → Option JobNote → Summary
job_noted phase None = bare phase
job_noted phase (Some note) = record { phase = phase; tolerated = false; line = Some note.line; reason = Reason.Job note.fact }

-- The legs of an open job made its result.
abbrev pub job_summary_by : Phase → Bool → Option JobNote → JobState → Summary
job_summary_by phase ended note JobState.Unjudged = job_noted phase note
job_summary_by phase ended note JobState.Open =
    if ended then record { phase = phase; tolerated = false; line = None; reason = Reason.LegsEnded } else job_noted phase note
job_summary_by phase ended note (JobState.Shut result) = job_noted phase note

abbrev pub job_found : JobAt → Option JobNote → Summary
job_found at note = job_summary_by (job_phase at.run at.job) (job_has_ended at.run at.job) note at.job.state

abbrev pub job_summary : Account → ℕ → Option JobAt → Summary
job_summary a j None = bare Phase.Unknown
job_summary a j (Some at) = job_found at (job_last (slice_get a.notes.jobs j))

-- ---- legs

-- A leg that never asked ends with its job.
abbrev pub leg_phase_by : Run → Job → LegState → Phase
leg_phase_by run job LegState.Fresh = if job_has_ended run job then Phase.Completed (job_result run job) else Phase.Queued
leg_phase_by run job LegState.Waiting = Phase.Waiting
leg_phase_by run job LegState.Admitted = Phase.Queued
leg_phase_by run job (LegState.Running worker in_call) = Phase.InProgress
leg_phase_by run job (LegState.Ended result tolerated) = Phase.Completed result

abbrev pub leg_phase : LegAt → Phase
leg_phase at = leg_phase_by at.run at.job at.leg.state

abbrev pub leg_summary : Account → ℕ → Option LegAt → Summary
leg_summary a l None = bare Phase.Unknown
leg_summary a l (Some at) =
    member_summary (leg_phase at) (was_tolerated at.leg.state) (leg_last (slice_get a.notes.legs l))

-- ---- steps

-- A step that is not done is skipped, once its leg has ended.
abbrev pub waiting_phase : Phase → Phase
waiting_phase Phase.Queued = Phase.Queued
waiting_phase Phase.Waiting = Phase.Queued
waiting_phase Phase.InProgress = Phase.Queued
waiting_phase (Phase.Completed result) = Phase.Completed Outcome.Skipped
waiting_phase Phase.Unknown = Phase.Unknown

-- a step that is not done, which is called or not
abbrev pub undone_summary : Bool → Phase → Option ℕ → Summary
undone_summary true leg call = record { phase = Phase.InProgress; tolerated = false; line = call; reason = Reason.Nothing }
undone_summary false leg call = bare (waiting_phase leg)

-- the outcome of a step that is done; the board has none where there is none
abbrev pub done_phase : Option DoneStep → Phase
done_phase None = Phase.Unknown
done_phase (Some done) = Phase.Completed done.outcome

-- a failure that counts as a success
abbrev pub is_passed : Option DoneStep → Bool
is_passed None = false
is_passed (Some done) = is_failure done.outcome && is_success done.conclusion

abbrev pub step_noted : LegAt → ℕ → Option ℕ → Option StepNote → Summary
step_noted at s call None = undone_summary (is_called s at.leg) (leg_phase at) call
step_noted at s call (Some note) = record {
  phase = done_phase (slice_get at.leg.steps s);
  tolerated = is_passed (slice_get at.leg.steps s);
  line = Some note.line;
  reason = Reason.Step note.fact;
}

abbrev pub step_summary : Account → ℕ → ℕ → Option LegAt → Summary
step_summary a l s None = bare Phase.Unknown
step_summary a l s (Some at) =
    step_noted at s (call_line (slice_get a.notes.legs l)) (step_last (slice_get a.notes.legs l) s)

-- ---- all

-- that a run or a leg was told to stop
abbrev pub stop_summary : Option StopNote → Summary
stop_summary None = bare Phase.Unknown
stop_summary (Some note) = record { phase = Phase.Unknown; tolerated = false; line = Some note.line; reason = Reason.Stop note.teller }

abbrev pub summary : Account → Question → Summary
summary a (Question.Run r) = run_summary a r (run_at a.plan a.board r)
summary a (Question.Job j) = job_summary a j (job_at a.plan a.board j)
summary a (Question.Leg l) = leg_summary a l (leg_at a.plan a.board l)
summary a (Question.Step l s) = step_summary a l s (leg_at a.plan a.board l)
summary a (Question.Stop who) = stop_summary (stop_of a who)
