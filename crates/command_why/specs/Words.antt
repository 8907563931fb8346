-- What is said of each fact.
use Rattle.std.specs.Prelude.{ℕ, zero, suc, ◌++◌, Bool, true, false, if◌then◌else◌, List, [], ℤ, pos, negsuc, codes, decimal, Option, Some, None, slice_get}
use Rattle.std.specs.List.{flat_map}
use Rattle.status_table.specs.Words.{DoneStep, JobAt, JobState, LegAt, LegState, Member, Outcome, RunAt, StepPlan, ValueFault, job_at, job_has_ended, leg_at, legs_result, run_at, value_fault_name}
use Rattle.why_causes.specs.Causes.{is_called, job_last, leg_last, run_last, step_last}
use Rattle.why_causes.specs.declared.question.Question.{Question}
use Rattle.why_causes.specs.declared.tree.Line.{Line}
use Rattle.why_facts.specs.declared.fact.JobFact.{JobFact}
use Rattle.why_facts.specs.declared.fact.MemberFact.{MemberFact}
use Rattle.why_facts.specs.declared.fact.StepFact.{StepFact}
use Rattle.why_facts.specs.declared.fact.StepText.{StepText}
use Rattle.why_facts.specs.declared.fact.StopCause.{StopCause}
use Rattle.why_facts.specs.declared.fact.Teller.{Teller}
use Rattle.why_facts.specs.declared.notes.JobNote.{JobNote}
use Rattle.why_facts.specs.declared.notes.LegNotes.{LegNotes}
use Rattle.why_facts.specs.declared.notes.MemberNote.{MemberNote}
use Rattle.why_facts.specs.declared.notes.RunNotes.{RunNotes}
use Rattle.why_facts.specs.declared.notes.StepNote.{StepNote}
use Rattle.why_facts.specs.declared.notes.StopNote.{StopNote}
use Rattle.why_notes.specs.Account.{Account}
use Rattle.command_why.specs.Names.{job_name, leg_name, member_name, run_name, shown, step_name}

-- ---- words

abbrev pub at_line : ℕ → List ℕ
at_line n = codes " at line " ++ decimal n

abbrev pub since_line : ℕ → List ℕ
since_line n = codes " since line " ++ decimal n

-- how a run or a job ended
abbrev pub ended_words : Outcome → List ℕ
ended_words Outcome.Success = codes " succeeded"
ended_words Outcome.Failure = codes " failed"
ended_words Outcome.Cancelled = codes " was cancelled"
ended_words Outcome.Skipped = codes " was skipped"

-- how a leg ended
abbrev pub leg_ended_words : Outcome → List ℕ
leg_ended_words Outcome.Success = codes " ended success"
leg_ended_words Outcome.Failure = codes " ended failure"
leg_ended_words Outcome.Cancelled = codes " ended cancelled"
leg_ended_words Outcome.Skipped = codes " ended skipped"

-- the name of a group, if it has one
abbrev pub group_words : Option (List ℕ) → List ℕ
group_words None = codes "its group"
group_words (Some name) = codes "the group " ++ shown name

-- ---- what becomes of a run or a leg in its group

abbrev pub waits_words : Account → ℕ → Option (List ℕ) → Member → List ℕ
waits_words a n group holds =
    (codes " waits" ++ since_line n) ++ ((codes " for " ++ group_words group) ++ (codes " behind " ++ member_name a holds))

abbrev pub follows_words : Account → Member → List ℕ
follows_words a before = codes ", when " ++ (member_name a before ++ codes " left its group")

abbrev pub displaced_words : Account → ℕ → Member → List ℕ
displaced_words a n by = at_line n ++ (codes ": " ++ (member_name a by ++ codes " took its place in the group"))

abbrev pub faulted_words : ℕ → List ℕ → ValueFault → List ℕ
faulted_words n what fault = at_line n ++ ((codes ": " ++ what) ++ (codes " has no value: " ++ value_fault_name fault))

-- ---- runs

abbrev pub run_fact_words : Account → RunAt → ℕ → MemberFact → List ℕ
run_fact_words a at n MemberFact.Admitted = codes " is going" ++ since_line n
run_fact_words a at n (MemberFact.Follows before) = (codes " is going" ++ since_line n) ++ follows_words a before
run_fact_words a at n (MemberFact.Waits holds) = waits_words a n at.run.group holds
run_fact_words a at n (MemberFact.Displaced by) = codes " was cancelled" ++ displaced_words a n by
run_fact_words a at n (MemberFact.NoGroup fault) = codes " failed" ++ faulted_words n (codes "the name of its group") fault
run_fact_words a at n (MemberFact.Closed result) = ended_words result ++ at_line n
run_fact_words a at n _ = []

abbrev pub run_said : Account → RunAt → Option MemberNote → List ℕ
run_said a at None = codes " is new"
run_said a at (Some note) = run_fact_words a at note.line note.fact

abbrev pub run_words : Account → ℕ → Option RunAt → List ℕ
run_words a r None = []
run_words a r (Some at) = run_said a at (run_last (slice_get a.notes.runs r))

-- ---- jobs

-- the text of a condition
abbrev pub condition_words : Option (List ℕ) → List ℕ
condition_words None = codes "success()"
condition_words (Some text) = shown text

-- why a job or a step waits for success
abbrev pub waiting_words : Option (List ℕ) → List ℕ
waiting_words None = codes "it has no condition"
waiting_words (Some text) = codes "its condition names no status function"

abbrev pub job_fact_words : JobAt → ℕ → JobFact → List ℕ
job_fact_words at n JobFact.Opened = codes " is open" ++ since_line n
job_fact_words at n JobFact.RunStopped = codes " was cancelled" ++ (at_line n ++ codes ": its run was told to stop")
job_fact_words at n JobFact.Unsuccessful =
    codes " was skipped" ++ (at_line n ++ (codes ": " ++ (waiting_words at.plan.condition ++ codes ", so all that it needs has to succeed")))
job_fact_words at n JobFact.Untrue =
    codes " was skipped" ++ (at_line n ++ (codes ": its condition is not true: " ++ condition_words at.plan.condition))
job_fact_words at n (JobFact.Faulted fault) = codes " failed" ++ faulted_words n (codes "its condition") fault

abbrev pub job_noted_words : JobAt → Option JobNote → List ℕ
job_noted_words at None = codes " was not judged"
job_noted_words at (Some note) = job_fact_words at note.line note.fact

-- of a job that was opened, whose legs have all ended
abbrev pub job_said : JobAt → Option JobNote → JobState → List ℕ
job_said at note JobState.Unjudged = job_noted_words at note
job_said at note JobState.Open =
    if job_has_ended at.run at.job then ended_words (legs_result at.job.legs) else job_noted_words at note
job_said at note (JobState.Shut result) = job_noted_words at note

abbrev pub job_words : Account → ℕ → Option JobAt → List ℕ
job_words a j None = []
job_words a j (Some at) = job_said at (job_last (slice_get a.notes.jobs j)) at.job.state

-- ---- legs

-- why a leg is to stop
abbrev pub cause_words : Account → StopCause → List ℕ
cause_words a StopCause.Told = codes "it was told to stop"
cause_words a (StopCause.FailFast l) = leg_name l (leg_at a.plan a.board l) ++ codes " failed, and the job fails fast"
cause_words a StopCause.RunTold = codes "its run was told to stop"

-- a failure may be tolerated
abbrev pub tolerated_words : LegState → List ℕ
tolerated_words LegState.Fresh = []
tolerated_words LegState.Waiting = []
tolerated_words LegState.Admitted = []
tolerated_words (LegState.Running worker in_call) = []
tolerated_words (LegState.Ended result tolerated) = if tolerated then codes ", which is tolerated" else []

-- which worker has a leg
abbrev pub worker_words : LegState → List ℕ
worker_words LegState.Fresh = []
worker_words LegState.Waiting = []
worker_words LegState.Admitted = []
worker_words (LegState.Running worker in_call) = codes " by worker " ++ decimal worker
worker_words (LegState.Ended result tolerated) = []

abbrev pub leg_fact_words : Account → LegAt → ℕ → MemberFact → List ℕ
leg_fact_words a at n MemberFact.Admitted = codes " was admitted" ++ at_line n
leg_fact_words a at n (MemberFact.Follows before) = (codes " was admitted" ++ at_line n) ++ follows_words a before
leg_fact_words a at n (MemberFact.Waits holds) = waits_words a n at.leg.group holds
leg_fact_words a at n (MemberFact.Displaced by) = codes " ended cancelled" ++ displaced_words a n by
leg_fact_words a at n MemberFact.OwnRun = codes " ended cancelled" ++ (at_line n ++ codes ": its own run holds its group")
leg_fact_words a at n (MemberFact.NoGroup fault) = codes " ended failure" ++ faulted_words n (codes "the name of its group") fault
leg_fact_words a at n MemberFact.Taken = (codes " runs" ++ since_line n) ++ worker_words at.leg.state
leg_fact_words a at n (MemberFact.Finished result) = (leg_ended_words result ++ at_line n) ++ tolerated_words at.leg.state
leg_fact_words a at n (MemberFact.Stopped cause) = codes " ended cancelled" ++ (at_line n ++ (codes ": " ++ cause_words a cause))
leg_fact_words a at n (MemberFact.Closed result) = []

abbrev pub leg_said : Account → LegAt → Option MemberNote → List ℕ
leg_said a at None = codes " has not asked"
leg_said a at (Some note) = leg_fact_words a at note.line note.fact

abbrev pub leg_words : Account → ℕ → Option LegAt → List ℕ
leg_words a l None = []
leg_words a l (Some at) = leg_said a at (leg_last (slice_get a.notes.legs l))

-- ---- steps

-- a failure that counts as a success is passed over
abbrev pub passed_words : Option DoneStep → List ℕ
passed_words None = []
passed_words (Some done) = over done.conclusion
  where
    over : Outcome → List ℕ
    over Outcome.Success = codes ", which is passed over"
    over Outcome.Failure = []
    over Outcome.Cancelled = []
    over Outcome.Skipped = []

-- a text of a step
abbrev pub text_words : StepText → List ℕ
text_words StepText.FlowEnv = codes "a variable of its workflow"
text_words StepText.JobEnv = codes "a variable of its job"
text_words StepText.StepEnv = codes "a variable of its own"
text_words StepText.Condition = codes "its condition"
text_words StepText.Work = codes "a text of what it does"

-- what a program ended with
abbrev pub exit_words : ℕ → Option DoneStep → ℤ → List ℕ
exit_words n step (pos zero) = codes " succeeded" ++ at_line n
exit_words n step (pos (suc code)) =
    (codes " failed" ++ at_line n) ++ ((codes ": the program ended with " ++ decimal (suc code)) ++ passed_words step)
exit_words n step (negsuc code) = (codes " failed" ++ at_line n) ++ passed_words step

-- the condition of a step
abbrev pub step_condition : Option StepPlan → Option (List ℕ)
step_condition None = None
step_condition (Some step) = step.condition

abbrev pub step_fact_words : Account → LegAt → ℕ → ℕ → StepFact → List ℕ
step_fact_words a at s n (StepFact.Exited code) = exit_words n (slice_get at.leg.steps s) code
step_fact_words a at s n StepFact.NotStarted =
    (codes " failed" ++ at_line n) ++ (codes ": it was not started" ++ passed_words (slice_get at.leg.steps s))
step_fact_words a at s n StepFact.BadOutput =
    (codes " failed" ++ at_line n) ++ (codes ": what it gave could not be read" ++ passed_words (slice_get at.leg.steps s))
step_fact_words a at s n (StepFact.Stopping cause) = codes " was skipped" ++ (at_line n ++ (codes ": " ++ cause_words a cause))
step_fact_words a at s n (StepFact.AfterFailure k) =
    codes " was skipped" ++ (at_line n ++ ((codes ": step " ++ decimal k) ++ codes " counts as a failure"))
step_fact_words a at s n StepFact.Untrue =
    codes " was skipped"
    ++ (at_line n ++ (codes ": its condition is not true: " ++ condition_words (step_condition (slice_get at.job_plan.steps s))))
step_fact_words a at s n (StepFact.Faulted text fault) =
    (codes " failed" ++ faulted_words n (text_words text) fault) ++ passed_words (slice_get at.leg.steps s)

-- the line at which the last call of a leg began
abbrev pub call_line : Option LegNotes → Option ℕ
call_line None = None
call_line (Some notes) = notes.call

-- of a step that is not done
abbrev pub called_words : Option ℕ → List ℕ
called_words None = codes " runs"
called_words (Some n) = codes " runs" ++ since_line n

abbrev pub undone_words : LegAt → ℕ → Option ℕ → List ℕ
undone_words at s call = if is_called s at.leg then called_words call else codes " has not begun"

abbrev pub step_said : Account → LegAt → ℕ → Option ℕ → Option StepNote → List ℕ
step_said a at s call None = undone_words at s call
step_said a at s call (Some note) = step_fact_words a at s note.line note.fact

abbrev pub step_found_words : Account → ℕ → ℕ → Option LegAt → List ℕ
step_found_words a l s None = []
step_found_words a l s (Some at) =
    step_said a at s (call_line (slice_get a.notes.legs l)) (step_last (slice_get a.notes.legs l) s)

-- ---- who told to stop

abbrev pub teller_words : Account → Teller → List ℕ
teller_words a Teller.Cancel = codes " by cancel"
teller_words a (Teller.Newer m) = codes " by " ++ (member_name a m ++ codes ", a newer member of its group")

abbrev pub stop_words : Account → Option StopNote → List ℕ
stop_words a None = codes " was told to stop"
stop_words a (Some note) = (codes " was told to stop" ++ at_line note.line) ++ teller_words a note.teller

abbrev pub run_stop : Option RunNotes → Option StopNote
run_stop None = None
run_stop (Some notes) = notes.stop

abbrev pub leg_stop : Option LegNotes → Option StopNote
leg_stop None = None
leg_stop (Some notes) = notes.stop

abbrev pub stop_of : Account → Member → Option StopNote
stop_of a (Member.Run r) = run_stop (slice_get a.notes.runs r)
stop_of a (Member.Leg l) = leg_stop (slice_get a.notes.legs l)

-- ---- lines

-- the name of what is asked about
abbrev pub question_name : Account → Question → List ℕ
question_name a (Question.Run r) = run_name r (run_at a.plan a.board r)
question_name a (Question.Job j) = job_name j (job_at a.plan a.board j)
question_name a (Question.Leg l) = leg_name l (leg_at a.plan a.board l)
question_name a (Question.Step l s) = step_name s (leg_at a.plan a.board l)
question_name a (Question.Stop who) = member_name a who

-- what is said of it
abbrev pub question_words : Account → Question → List ℕ
question_words a (Question.Run r) = run_words a r (run_at a.plan a.board r)
question_words a (Question.Job j) = job_words a j (job_at a.plan a.board j)
question_words a (Question.Leg l) = leg_words a l (leg_at a.plan a.board l)
question_words a (Question.Step l s) = step_found_words a l s (leg_at a.plan a.board l)
question_words a (Question.Stop who) = stop_words a (stop_of a who)

-- what is said of what was said already
abbrev pub above_words : Question → List ℕ
above_words (Question.Run r) = codes " (above)"
above_words (Question.Job j) = codes " (above)"
above_words (Question.Leg l) = codes " (above)"
above_words (Question.Step l s) = codes " (above)"
above_words (Question.Stop who) = codes " was told to stop (above)"

-- the same, unless it was said already
abbrev pub said : Account → Question → Bool → List ℕ
said a q true = above_words q
said a q false = question_words a q

-- two blanks for each step deeper
abbrev pub indent : ℕ → List ℕ
indent zero = []
indent (suc n) = codes "  " ++ indent n

-- a line of the tree
abbrev pub line_words : Account → Line → List ℕ
line_words a line = indent line.depth ++ (question_name a line.question ++ (said a line.question line.above ++ codes "\n"))

-- the lines of a tree
abbrev pub tree_text : Account → List Line → List ℕ
tree_text a lines = flat_map (line_words a) lines
