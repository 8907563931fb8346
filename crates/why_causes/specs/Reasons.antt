-- Whatever became of a leg, a step, or a run that waits, what made it so is named, and nothing else.
use Rattle.std.specs.Prelude.{◌≡◌, ◌≤◌, ◌<◌, ◌++◌, ◌&&◌, ℕ, Bool, true, false, if◌then◌else◌, List, [], ◌∷◌, length, Option, Some, None, slice_get}
use Rattle.status_table.specs.Words.{DoneStep, Entrance, Entry, IsPlan, LegAt, LegState, Member, Outcome, Plan, RunAt, RunState, holder, is_failure, is_going, is_open, is_stopping, leg_at, run_at}
use Rattle.why_causes.specs.Causes.{about, cause_asked, causes, is_called, leg_last, slots_asked, step_last, stop_asked, stopping_asked}
use Rattle.why_causes.specs.Made.{MadeAt}
use Rattle.why_causes.specs.declared.question.Question.{Question}
use Rattle.why_facts.specs.declared.fact.Change.{Change}
use Rattle.why_facts.specs.declared.fact.MemberFact.{MemberFact}
use Rattle.why_facts.specs.declared.fact.StepFact.{StepFact}
use Rattle.why_facts.specs.declared.fact.StopCause.{StopCause}
use Rattle.why_facts.specs.declared.notes.MemberNote.{MemberNote}
use Rattle.why_facts.specs.declared.notes.StepNote.{StepNote}
use Rattle.why_notes.specs.Account.{Account, account_of}
use Rattle.why_notes.specs.Laws.{CauseHolds, Enters, OfNext, StopsFor}

-- ---- who waits

-- Below a member that waits stand the one that held its group when it came to wait, and that it was told to stop, where it was.
pub record NamesHolder (p : Plan) (es : List Entry) (a : Account) (who holds : Member) (told : Bool) (line : ℕ) : Type 0 where
  pub made : MadeAt p es line (Change.Member who (MemberFact.Waits holds))
  pub group : Entrance
  pub entered : Enters p made.old who group
  pub held : holder made.old group.name ≡ Some holds
  pub named : causes a (about who) ≡ about holds ∷ stop_asked who told

abbrev pub WaitingRunsNameHolders : Type 0
WaitingRunsNameHolders =
    (p : Plan) (es : List Entry) (a : Account) (r : ℕ) (at : RunAt) → account_of p es ≡ Some a
    → run_at a.plan a.board r ≡ Some at → at.run.state ≡ RunState.Waiting
    → (holds : Member) × (line : ℕ) × NamesHolder p es a (Member.Run r) holds at.run.stop line

-- ---- a leg

-- The step at a place is the first of some that counts as a failure.
pub record IsFirstFailure (steps : List DoneStep) (place : ℕ) : Type 0 where
  pub step : DoneStep
  pub there : slice_get steps place ≡ Some step
  pub failed : is_failure step.conclusion ≡ true
  pub none : (i : ℕ) (other : DoneStep) → i < place → slice_get steps i ≡ Some other → is_failure other.conclusion ≡ false

-- Below a leg that came to its end stands the first of its steps that counts as a failure, where it failed.
abbrev pub FinishedNames : Account → ℕ → LegAt → Outcome → Type 0
FinishedNames a l at Outcome.Success = causes a (Question.Leg l) ≡ []
FinishedNames a l at Outcome.Failure =
    (s : ℕ) × IsFirstFailure at.leg.steps s × (causes a (Question.Leg l) ≡ Question.Step l s ∷ [])
FinishedNames a l at Outcome.Cancelled = ⊥
FinishedNames a l at Outcome.Skipped = ⊥

-- Below a leg that was to stop stands the cause, which held on the board before the entry that ended the leg.
pub record NamesCause (p : Plan) (es : List Entry) (a : Account) (l : ℕ) (at : LegAt) (line : ℕ) (cause : StopCause) : Type 0 where
  pub made : MadeAt p es line (Change.Member (Member.Leg l) (MemberFact.Stopped cause))
  pub held : StopsFor p made.old (Member.Leg l) cause
  pub named : causes a (Question.Leg l) ≡ cause_asked at.place.run l cause

-- A leg stands so, and these are named below it, and no others.
abbrev pub StandsFor : Account → ℕ → LegAt → LegState → List Question → Type 0
StandsFor a l at state named = (at.leg.state ≡ state) × (causes a (Question.Leg l) ≡ named)

-- that a leg was told to stop, where it was
abbrev pub leg_told : ℕ → LegAt → List Question
leg_told l at = stop_asked (Member.Leg l) at.leg.stop

-- the step of a leg that is in its call, where one is
abbrev pub called_now : ℕ → LegAt → Bool → List Question
called_now l at false = []
called_now l at true = Question.Step l (length at.leg.steps) ∷ []

-- By what became of a leg last: how it stands, and all that is named below it.
abbrev pub LegNamesFor : Plan → List Entry → Account → ℕ → LegAt → ℕ → MemberFact → Type 0
LegNamesFor p es a l at line (MemberFact.Waits holds) =
    (at.leg.state ≡ LegState.Waiting) × NamesHolder p es a (Member.Leg l) holds at.leg.stop line
LegNamesFor p es a l at line MemberFact.Admitted = StandsFor a l at LegState.Admitted (leg_told l at)
LegNamesFor p es a l at line (MemberFact.Follows before) = StandsFor a l at LegState.Admitted (leg_told l at)
LegNamesFor p es a l at line MemberFact.Taken =
    (worker : ℕ) × (in_call : Bool) × StandsFor a l at (LegState.Running worker in_call) (called_now l at in_call ++ leg_told l at)
LegNamesFor p es a l at line (MemberFact.Finished result) =
    (tolerated : Bool) × (at.leg.state ≡ LegState.Ended result tolerated) × FinishedNames a l at result
LegNamesFor p es a l at line (MemberFact.Stopped cause) =
    (at.leg.state ≡ LegState.Ended Outcome.Cancelled false) × NamesCause p es a l at line cause
LegNamesFor p es a l at line (MemberFact.Displaced by) = StandsFor a l at (LegState.Ended Outcome.Cancelled false) []
LegNamesFor p es a l at line MemberFact.OwnRun = StandsFor a l at (LegState.Ended Outcome.Cancelled false) []
LegNamesFor p es a l at line (MemberFact.NoGroup fault) = StandsFor a l at (LegState.Ended Outcome.Failure false) []
LegNamesFor p es a l at line (MemberFact.Closed result) = ⊥

-- Of a leg of which nothing became yet: where its run or its job does not go on, its job is named; else why it is to stop, where it
-- is, and who takes the slots.
abbrev pub LegNames : Plan → List Entry → Account → ℕ → LegAt → Option MemberNote → Type 0
LegNames p es a l at None =
    StandsFor a l at LegState.Fresh
    (if is_going at.run.state && is_open at.job.state then stopping_asked l at ++ slots_asked l at else Question.Job at.job_plan.number ∷ [])
LegNames p es a l at (Some note) = LegNamesFor p es a l at note.line note.fact

abbrev pub LegsNameReasons : Type 0
LegsNameReasons =
    (p : Plan) (es : List Entry) (a : Account) (l : ℕ) (at : LegAt) → IsPlan p → account_of p es ≡ Some a
    → leg_at a.plan a.board l ≡ Some at → LegNames p es a l at (leg_last (slice_get a.notes.legs l))

-- ---- a step

-- Below a step that was skipped since its leg was to stop stands the cause, which held on the board before the entry that skipped it.
pub record StepNamesCause (p : Plan) (es : List Entry) (a : Account) (l s : ℕ) (at : LegAt) (line : ℕ) (cause : StopCause) : Type 0 where
  pub made : MadeAt p es line (Change.Step l (StepFact.Stopping cause))
  pub held : OfNext p made.old l (λ before step. (is_stopping before ≡ true) × CauseHolds l before cause)
  pub named : causes a (Question.Step l s) ≡ cause_asked at.place.run l cause

-- By what became of a step: below one that was skipped after a failure stands the first step of its leg that counts as one.
abbrev pub StepNamesFor : Plan → List Entry → Account → ℕ → ℕ → LegAt → ℕ → StepFact → Type 0
StepNamesFor p es a l s at line (StepFact.AfterFailure first) =
    IsFirstFailure at.leg.steps first × (causes a (Question.Step l s) ≡ Question.Step l first ∷ [])
StepNamesFor p es a l s at line (StepFact.Stopping cause) = StepNamesCause p es a l s at line cause
StepNamesFor p es a l s at line (StepFact.Exited code) = causes a (Question.Step l s) ≡ []
StepNamesFor p es a l s at line StepFact.NotStarted = causes a (Question.Step l s) ≡ []
StepNamesFor p es a l s at line StepFact.BadOutput = causes a (Question.Step l s) ≡ []
StepNamesFor p es a l s at line StepFact.Untrue = causes a (Question.Step l s) ≡ []
StepNamesFor p es a l s at line (StepFact.Faulted text fault) = causes a (Question.Step l s) ≡ []

-- Of each step of a leg that is done that is told; below one that is not stands its leg, but while it is in its call.
pub record StepsName (p : Plan) (es : List Entry) (a : Account) (l : ℕ) (at : LegAt) : Type 0 where
  pub done : (s : ℕ) → s < length at.leg.steps → (note : StepNote) × (step_last (slice_get a.notes.legs l) s ≡ Some note)
      × StepNamesFor p es a l s at note.line note.fact
  pub undone : (s : ℕ) → length at.leg.steps ≤ s
      → causes a (Question.Step l s) ≡ (if is_called s at.leg then [] else Question.Leg l ∷ [])

abbrev pub StepsNameReasons : Type 0
StepsNameReasons =
    (p : Plan) (es : List Entry) (a : Account) (l : ℕ) (at : LegAt) → IsPlan p → account_of p es ≡ Some a
    → leg_at a.plan a.board l ≡ Some at → StepsName p es a l at

-- Runs that wait, legs and steps name what made them so.
pub record ReasonsAreNamed : Type 0 where
  pub runs : WaitingRunsNameHolders
  pub legs : LegsNameReasons
  pub steps : StepsNameReasons
