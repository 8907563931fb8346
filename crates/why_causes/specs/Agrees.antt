-- What is noted of all that a plan has is how it stands on a board.
use Rattle.std.specs.Prelude.{◌≡◌, ℕ, Bool, if◌then◌else◌, List, map, Option, Some, None, is_some}
use Rattle.std.specs.List.{AllZip, list_any}
use Rattle.status_table.specs.Words.{Board, DoneStep, Each, Job, JobState, Leg, LegState, Outcome, Run, RunState, board_jobs, board_legs, first_place, is_failure}
use Rattle.why_facts.specs.declared.fact.MemberFact.{MemberFact}
use Rattle.why_facts.specs.declared.fact.StepFact.{StepFact}
use Rattle.why_facts.specs.declared.notes.JobNote.{JobNote}
use Rattle.why_facts.specs.declared.notes.JobNotes.{JobNotes}
use Rattle.why_facts.specs.declared.notes.LegNotes.{LegNotes}
use Rattle.why_facts.specs.declared.notes.MemberNote.{MemberNote}
use Rattle.why_facts.specs.declared.notes.Notes.{Notes}
use Rattle.why_facts.specs.declared.notes.RunNotes.{RunNotes}
use Rattle.why_facts.specs.declared.notes.StepNote.{StepNote}
use Rattle.why_notes.specs.Laws.{judged_to}
use Rattle.why_causes.specs.Stands.{LegIs, RunIs, outcome_told}

-- the state of a run of which that was noted last
abbrev pub RunNow : Option MemberNote → RunState → Type 0
RunNow None s = s ≡ RunState.New
RunNow (Some note) s = RunIs note.fact s

-- the state of a leg of which that became last: one that was taken may be in a call meanwhile
abbrev pub LegStill : MemberFact → LegState → Type 0
LegStill MemberFact.Taken s = (worker : ℕ) × ((in_call : Bool) × (s ≡ LegState.Running worker in_call))
LegStill MemberFact.Admitted s = LegIs MemberFact.Admitted s
LegStill (MemberFact.Waits holder) s = LegIs (MemberFact.Waits holder) s
LegStill (MemberFact.Follows before) s = LegIs (MemberFact.Follows before) s
LegStill (MemberFact.Displaced by) s = LegIs (MemberFact.Displaced by) s
LegStill MemberFact.OwnRun s = LegIs MemberFact.OwnRun s
LegStill (MemberFact.NoGroup f) s = LegIs (MemberFact.NoGroup f) s
LegStill (MemberFact.Closed result) s = LegIs (MemberFact.Closed result) s
LegStill (MemberFact.Finished result) s = LegIs (MemberFact.Finished result) s
LegStill (MemberFact.Stopped cause) s = LegIs (MemberFact.Stopped cause) s

-- the same of one of which that was noted last
abbrev pub LegNow : Option MemberNote → LegState → Type 0
LegNow None s = s ≡ LegState.Fresh
LegNow (Some note) s = LegStill note.fact s

-- the state of a job of which that was noted
abbrev pub JobNow : Option JobNote → JobState → Type 0
JobNow None s = s ≡ JobState.Unjudged
JobNow (Some note) s = s ≡ judged_to note.fact

-- what the steps of a leg come to that is not to stop
abbrev pub steps_result : List DoneStep → Outcome
steps_result steps = if list_any (λ step. is_failure step.conclusion) steps then Outcome.Failure else Outcome.Success

-- The result of a leg that is told to have come to its end is that of its steps.
abbrev pub ResultIs : MemberFact → List DoneStep → Type 0
ResultIs (MemberFact.Finished result) steps = result ≡ steps_result steps
ResultIs MemberFact.Admitted steps = Unit {0}
ResultIs (MemberFact.Waits holder) steps = Unit {0}
ResultIs (MemberFact.Follows before) steps = Unit {0}
ResultIs (MemberFact.Displaced by) steps = Unit {0}
ResultIs MemberFact.OwnRun steps = Unit {0}
ResultIs (MemberFact.NoGroup f) steps = Unit {0}
ResultIs (MemberFact.Closed result) steps = Unit {0}
ResultIs MemberFact.Taken steps = Unit {0}
ResultIs (MemberFact.Stopped cause) steps = Unit {0}

abbrev pub ResultNow : Option MemberNote → List DoneStep → Type 0
ResultNow None steps = Unit {0}
ResultNow (Some note) steps = ResultIs note.fact steps

-- The step after whose failure a step is told to be skipped is the first of its leg that counts as one.
abbrev pub FailureIs : List DoneStep → StepFact → Type 0
FailureIs steps (StepFact.AfterFailure first) = first_place 0 (λ step. is_failure step.conclusion) steps ≡ Some first
FailureIs steps (StepFact.Exited code) = Unit {0}
FailureIs steps StepFact.NotStarted = Unit {0}
FailureIs steps StepFact.BadOutput = Unit {0}
FailureIs steps (StepFact.Stopping cause) = Unit {0}
FailureIs steps StepFact.Untrue = Unit {0}
FailureIs steps (StepFact.Faulted text f) = Unit {0}

-- A run is in the state of what was noted last, and was told to stop where somebody is noted who told it.
pub record RunAgrees (notes : RunNotes) (run : Run) : Type 0 where
  pub state : RunNow notes.last run.state
  pub told : is_some notes.stop ≡ run.stop

-- So is a job.
abbrev pub JobAgrees : JobNotes → Job → Type 0
JobAgrees notes job = JobNow notes.last job.state

-- So is a leg, which has as many steps that are done, with the outcomes of what was noted of them. Its result is that of its steps,
-- and the step after whose failure one was skipped is the first that failed.
pub record LegAgrees (notes : LegNotes) (leg : Leg) : Type 0 where
  pub state : LegNow notes.last leg.state
  pub told : is_some notes.stop ≡ leg.stop
  pub steps : map (λ (note : StepNote). outcome_told note.fact) notes.steps
      ≡ map (λ (done : DoneStep). done.outcome) leg.steps
  pub result : ResultNow notes.last leg.steps
  pub failures : Each (λ (note : StepNote). FailureIs leg.steps note.fact) notes.steps

-- Notes agree with a board.
pub record Agrees (b : Board) (notes : Notes) : Type 0 where
  pub runs : AllZip RunAgrees notes.runs b.runs
  pub jobs : AllZip JobAgrees notes.jobs (board_jobs b)
  pub legs : AllZip LegAgrees notes.legs (board_legs b)
