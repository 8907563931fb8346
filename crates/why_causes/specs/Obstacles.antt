-- Where others keep a job, a run or a leg from going on, or bring a job to its result, they are named.
use Rattle.std.specs.Prelude.{◌≡◌, ◌≢◌, ◌+◌, ◌-◌, ◌++◌, ℕ, Bool, true, false, Contains, List, [], Some, Err, map, slice_get}
use Rattle.status_table.specs.Words.{Entry, Event, InPlay, Job, JobAt, JobState, Leg, LegAt, LegState, Member, Outcome, Plan, RunAt, event_row, first_number, holds_at, is_ended, is_going, is_under_way, job_at, job_has_ended, job_of, leg_at, legs_result, may_ask, run_at}
use Rattle.why_causes.specs.Causes.{causes, first_job, stop_asked, stopping_asked}
use Rattle.why_causes.specs.declared.question.Question.{Question}
use Rattle.why_notes.specs.Account.{Account, account_of}
use Rattle.status_table.specs.declared.fault.EventFault.{EventFault}

-- These questions are asked, each by a number that is so, and all such numbers are asked about.
pub record AsksExactly (asks : List Question) (ask : ℕ → Question) (Is : ℕ → Type 0) : Type 0 where
  pub all : (n : ℕ) → Is n → Contains asks (ask n)
  pub alone : (q : Question) → Contains asks q → (n : ℕ) × Is n × (q ≡ ask n)

-- A row refuses for what others have not done just where some are named.
pub record NamesWhere (refused : Type 0) (named : List Question) : Type 0 where
  pub all : refused → named ≢ []
  pub alone : named ≢ [] → refused

-- The job with a number is one that another needs, and has not ended.
pub record IsOpenNeed (at : JobAt) (number : ℕ) : Type 0 where
  pub needed : Contains at.plan.needs number
  pub unended : holds_at (map (job_has_ended at.run) at.run.jobs) (number - first_number at) ≡ false

-- Below a job stand its needs that have not ended, and nothing else; some of them, just where the row refuses for them.
pub record NamesNeeds (a : Account) (j : ℕ) (at : JobAt) (refused : Type 0) : Type 0 where
  pub named : NamesWhere refused (causes a (Question.Job j))
  pub exactly : AsksExactly (causes a (Question.Job j)) Question.Job (IsOpenNeed at)

-- So it is of a job that was not judged, where the table refuses to judge it.
abbrev pub OpenNeedsAreNamed : Type 0
OpenNeedsAreNamed =
    (a : Account) (j : ℕ) (at : JobAt) (worker : ℕ) → InPlay a.plan a.board → job_at a.plan a.board j ≡ Some at
    → is_going at.run.state ≡ true → at.job.state ≡ JobState.Unjudged
    → NamesNeeds a j at (event_row a.plan a.board worker (Event.Judge j) ≡ Err EventFault.NeedsOpen)

-- The job with a number, of those that follow the first of a run, has not ended.
pub record IsOpenJob (at : RunAt) (number : ℕ) : Type 0 where
  pub place : ℕ
  pub job : Job
  pub there : slice_get at.run.jobs place ≡ Some job
  pub unended : job_has_ended at.run job ≡ false
  pub numbered : number ≡ first_job at.plan.jobs + place

-- Below a run stand its jobs that have not ended, and nothing else beside that it was told to stop; some of them, just where the
-- row refuses for them.
pub record NamesJobs (a : Account) (r : ℕ) (at : RunAt) (refused : Type 0) : Type 0 where
  pub jobs : List Question
  pub below : causes a (Question.Run r) ≡ stop_asked (Member.Run r) at.run.stop ++ jobs
  pub named : NamesWhere refused jobs
  pub exactly : AsksExactly jobs Question.Job (IsOpenJob at)

-- So it is of a run that is Going, where the table refuses to close it.
abbrev pub OpenJobsAreNamed : Type 0
OpenJobsAreNamed =
    (p : Plan) (es : List Entry) (a : Account) (r : ℕ) (at : RunAt) (worker : ℕ) → account_of p es ≡ Some a
    → run_at a.plan a.board r ≡ Some at → is_going at.run.state ≡ true
    → NamesJobs a r at (event_row a.plan a.board worker (Event.Close r) ≡ Err EventFault.NeedsOpen)

-- The leg with a number is one of the job of leg l, and is under way.
pub record TakesSlot (l : ℕ) (at : LegAt) (number : ℕ) : Type 0 where
  pub place : ℕ
  pub leg : Leg
  pub there : slice_get at.job.legs place ≡ Some leg
  pub under_way : is_under_way leg.state ≡ true
  pub numbered : number ≡ l - at.place.leg + place

-- The legs that are named below one that has not asked, beside why it is to stop: where it is refused, those that are under way,
-- and no others; else none.
pub record NamesLegs (a : Account) (l : ℕ) (at : LegAt) (refused : Type 0) : Type 0 where
  pub legs : List Question
  pub below : causes a (Question.Leg l) ≡ stopping_asked l at ++ legs
  pub taken : refused → AsksExactly legs Question.Leg (TakesSlot l at)
  pub alone : legs ≢ [] → refused

-- The table refuses to let a leg ask, since no slot is free, just where those are named that take the slots.
abbrev pub TakenSlotsAreNamed : Type 0
TakenSlotsAreNamed =
    (p : Plan) (es : List Entry) (a : Account) (l : ℕ) (at : LegAt) (worker : ℕ) → account_of p es ≡ Some a
    → leg_at a.plan a.board l ≡ Some at → may_ask at ≡ true
    → NamesLegs a l at (event_row a.plan a.board worker (Event.Ask l) ≡ Err EventFault.SlotsFull)

-- A job that was opened and ended without success names a leg of it.
abbrev pub LegsOfResultsAreNamed : Type 0
LegsOfResultsAreNamed =
    (a : Account) (j : ℕ) (at : JobAt) → job_at a.plan a.board j ≡ Some at → at.job.state ≡ JobState.Open
    → job_has_ended at.run at.job ≡ true → legs_result at.job.legs ≢ Outcome.Success → causes a (Question.Job j) ≢ []

-- With this state a leg brings its job to a result: it failed, and that is not tolerated; it was cancelled; or, where the job had
-- success, a failure of the leg is tolerated.
abbrev pub Brings : Outcome → LegState → Type 0
Brings Outcome.Success state = (result : Outcome) × (state ≡ LegState.Ended result true)
Brings Outcome.Failure state = state ≡ LegState.Ended Outcome.Failure false
Brings Outcome.Cancelled state = (tolerated : Bool) × (state ≡ LegState.Ended Outcome.Cancelled tolerated)
Brings Outcome.Skipped state = ⊥

-- Below a job stand all legs of it whose state is so, by their numbers, and nothing else.
pub record NamesItsLegs (a : Account) (j : ℕ) (at : JobAt) (Is : LegState → Type 0) : Type 0 where
  pub all : (l : ℕ) (leg : LegAt) → leg_at a.plan a.board l ≡ Some leg → job_of leg ≡ at → Is leg.leg.state
      → Contains (causes a (Question.Job j)) (Question.Leg l)
  pub alone : (q : Question) → Contains (causes a (Question.Job j)) q
      → (l : ℕ) × (leg : LegAt) × (leg_at a.plan a.board l ≡ Some leg) × (job_of leg ≡ at) × Is leg.leg.state × (q ≡ Question.Leg l)

-- Below a job that was opened stand its legs that have not ended; where the job has ended, those that bring it to its result.
pub record OpenedJobNames (a : Account) (j : ℕ) (at : JobAt) : Type 0 where
  pub going : job_has_ended at.run at.job ≡ false → NamesItsLegs a j at (λ state. is_ended state ≡ false)
  pub ended : job_has_ended at.run at.job ≡ true → NamesItsLegs a j at (Brings (legs_result at.job.legs))

abbrev pub OpenedJobsNameLegs : Type 0
OpenedJobsNameLegs =
    (p : Plan) (es : List Entry) (a : Account) (j : ℕ) (at : JobAt) → account_of p es ≡ Some a
    → job_at a.plan a.board j ≡ Some at → at.job.state ≡ JobState.Open → OpenedJobNames a j at

-- What keeps others from going on, or brings a job to its result, is named.
pub record ObstaclesAreNamed : Type 0 where
  pub needs : OpenNeedsAreNamed
  pub jobs : OpenJobsAreNamed
  pub slots : TakenSlotsAreNamed
  pub legs : LegsOfResultsAreNamed
  pub opened : OpenedJobsNameLegs
