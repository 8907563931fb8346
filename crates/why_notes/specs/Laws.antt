-- What holds of what an entry makes so, beside the row of its event.
use Rattle.std.specs.Prelude.{◌≡◌, ◌⊎◌, ℕ, ◌-◌, ◌++◌, Bool, true, false, List, [], ◌∷◌, Option, Some, None, Result, Ok, Err}
use Rattle.std.specs.List.{AllByRecursion}
use Rattle.status_table.specs.Words.{Board, EndOnce, Entrance, Entry, Event, JobAt, JobState, Leg, LegAt, Member, Outcome, Plan, Reply, RunAt, Status, StepPlan, ValueFault, after, event_row, first_of, first_place, holder, is_failure, is_stopping, is_true, job_at, job_condition, job_of, job_status, judgement, leg_at, leg_entrance, leg_standing, leg_status, next_after, next_step, run_at, run_entrance, run_standing, step_decision, stops_anyway, waiter}
use Rattle.why_facts.specs.Stops.{cause_of_stop, failed_of}
use Rattle.why_facts.specs.declared.fact.Change.{Change}
use Rattle.why_facts.specs.declared.fact.JobFact.{JobFact}
use Rattle.why_facts.specs.declared.fact.MemberFact.{MemberFact}
use Rattle.why_facts.specs.declared.fact.StepFact.{StepFact}
use Rattle.why_facts.specs.declared.fact.StopCause.{StopCause}
use Rattle.why_facts.specs.declared.fact.Teller.{Teller}
use Rattle.why_notes.specs.Account.{Account, account_of}
use Rattle.why_notes.specs.Changes.{changes, judged_under}
use Rattle.why_notes.specs.Conditions.{waits_in_vain}

-- ---- the board of an account

-- The board of a record's account is the board after its entries.
abbrev pub AccountsFollowTheTable : Type 0
AccountsFollowTheTable =
    (p : Plan) (es : List Entry) (a : Account) → account_of p es ≡ Some a → after p es ≡ Some a.board

-- ---- who is named

-- the first of two, if there is one
abbrev pub or_else : Option Member → Option Member → Option Member
or_else None other = other
or_else (Some m) other = Some m

-- it became going or admitted
abbrev pub admits : MemberFact → Bool
admits MemberFact.Admitted = true
admits (MemberFact.Follows before) = true
admits _ = false

-- it lost its place
abbrev pub loses : MemberFact → Bool
loses (MemberFact.Displaced by) = true
loses _ = false

-- a newer member told to stop
abbrev pub is_newer : Teller → Bool
is_newer Teller.Cancel = false
is_newer (Teller.Newer m) = true

abbrev pub when : Bool → Member → Option Member
when false m = None
when true m = Some m

-- who became going or admitted by a change
abbrev pub admitted_by : Change → Option Member
admitted_by (Change.Member who fact) = when (admits fact) who
admitted_by (Change.Job j fact) = None
admitted_by (Change.Called l) = None
admitted_by (Change.Step l fact) = None
admitted_by (Change.Stop who tells) = None

-- who lost its place
abbrev pub displaced_by : Change → Option Member
displaced_by (Change.Member who fact) = when (loses fact) who
displaced_by (Change.Job j fact) = None
displaced_by (Change.Called l) = None
displaced_by (Change.Step l fact) = None
displaced_by (Change.Stop who tells) = None

-- who was told to stop by a newer member
abbrev pub stopped_by : Change → Option Member
stopped_by (Change.Member who fact) = None
stopped_by (Change.Job j fact) = None
stopped_by (Change.Called l) = None
stopped_by (Change.Step l fact) = None
stopped_by (Change.Stop who tells) = when (is_newer tells) who

-- the first of changes that names somebody
abbrev pub named_in : (Change → Option Member) → List Change → Option Member
named_in of [] = None
named_in of (c ∷ cs) = or_else (of c) (named_in of cs)

-- The changes name whom the reply names.
pub record NameTheSame (cs : List Change) (reply : Reply) : Type 0 where
  pub admitted : named_in admitted_by cs ≡ reply.admitted
  pub displaced : named_in displaced_by cs ≡ reply.displaced
  pub stopped : named_in stopped_by cs ≡ reply.stopped

-- Where the row of an event accepts it, what it makes so names whom the row's reply names: who became going or admitted, who
-- lost its place, and who was told to stop.
abbrev pub ChangesNameWhomTheRowNames : Type 0
ChangesNameWhomTheRowNames =
    (p : Plan) (b new : Board) (worker : ℕ) (e : Event) (reply : Reply)
    → event_row p b worker e ≡ Ok (new, reply) → NameTheSame (changes p b e) reply

-- ---- why a leg is to stop

-- This leg of a job was the first of it to fail, by the order in which legs ended; the job's first leg has the number `first`.
pub record IsFirstToFail (first : ℕ) (legs : List Leg) (ends : List ℕ) (l : ℕ) : Type 0 where
  pub earlier : List ℕ
  pub further : List ℕ
  pub split : ends ≡ earlier ++ l ∷ further
  pub failed : failed_of first legs l ≡ true
  pub none : AllByRecursion (λ k. failed_of first legs k ≡ false) earlier

-- The cause that is named is the one that makes a leg stop: it was told to; or it was not, its job fails fast, and the leg that is
-- named was the first of the job to fail; or nothing of this is so, its run was told to, and the condition of its job, asked again
-- as that of a cancelled run, does not give true.
abbrev pub CauseHolds : ℕ → LegAt → StopCause → Type 0
CauseHolds l at StopCause.Told = at.leg.stop ≡ true
CauseHolds l at (StopCause.FailFast failed) =
    (at.leg.stop ≡ false) × (at.job_plan.fail_fast ≡ true)
    × IsFirstToFail (l - at.place.leg) at.job.legs at.board.ends failed
CauseHolds l at StopCause.RunTold =
    (stops_anyway at ≡ false) × (at.run.stop ≡ true)
    × (is_true (job_condition (job_of at) Status.Cancelled) ≡ false)

-- Of a leg that is to stop, the cause that is named makes it so. (On a board in play the ends are the legs that ended.)
abbrev pub StopsAreCaused : Type 0
StopsAreCaused =
    (p : Plan) (b : Board) (l : ℕ) (at : LegAt) → EndOnce b → leg_at p b l ≡ Some at → is_stopping at ≡ true
    → CauseHolds l at (cause_of_stop l at)

-- The row of an event accepts it, on a board whose ends are the legs that ended.
pub record Accepts (p : Plan) (b : Board) (e : Event) : Type 0 where
  pub ends : EndOnce b
  pub worker : ℕ
  pub new : Board
  pub reply : Reply
  pub row : event_row p b worker e ≡ Ok (new, reply)

-- ---- what reasons name

-- The group of a run or a leg has this value, as the row looks at it: a group, none, or a fault.
abbrev pub Asks : Plan → Board → Member → Result (Option Entrance) ValueFault → Type 0
Asks p b (Member.Run r) group = (at : RunAt) × (run_at p b r ≡ Some at) × (run_entrance at ≡ group)
Asks p b (Member.Leg l) group = (at : LegAt) × (leg_at p b l ≡ Some at) × (leg_entrance at ≡ group)

-- A run or a leg is about to enter this group.
abbrev pub Enters : Plan → Board → Member → Entrance → Type 0
Enters p b who group = Asks p b who (Ok (Some group))

-- It enters a group that nobody holds, or none.
abbrev pub EntersFreely : Plan → Board → Member → Type 0
EntersFreely p b who =
    Asks p b who (Ok None) ⊎ ((group : Entrance) × Enters p b who group × (holder b group.name ≡ None))

-- A leg enters a group that its own run holds.
abbrev pub EntersItsRuns : Plan → Board → Member → Type 0
EntersItsRuns p b (Member.Run r) = ⊥
EntersItsRuns p b (Member.Leg l) =
    (at : LegAt) × (leg_at p b l ≡ Some at)
    × ((group : Entrance) × (leg_entrance at ≡ Ok (Some group)) × (holder b group.name ≡ Some (Member.Run at.place.run)))

-- A run or a leg that leaves its group passes it on to this member.
abbrev pub PassesOnTo : Plan → Board → Member → Member → Type 0
PassesOnTo p b (Member.Run r) next =
    (at : RunAt) × (run_at p b r ≡ Some at) × (next_after b (run_standing at.run) ≡ Some next)
PassesOnTo p b (Member.Leg l) next =
    (at : LegAt) × (leg_at p b l ≡ Some at) × (next_after b (leg_standing at.leg) ≡ Some next)

-- A leg of whose end is told: it is not to stop.
abbrev pub GoesToItsEnd : Plan → Board → Member → Type 0
GoesToItsEnd p b (Member.Run r) = ⊥
GoesToItsEnd p b (Member.Leg l) = (at : LegAt) × (leg_at p b l ≡ Some at) × (is_stopping at ≡ false)

-- It is a leg that is to stop, for this cause.
abbrev pub StopsFor : Plan → Board → Member → StopCause → Type 0
StopsFor p b (Member.Run r) cause = ⊥
StopsFor p b (Member.Leg l) cause =
    (at : LegAt) × (leg_at p b l ≡ Some at) × (is_stopping at ≡ true) × CauseHolds l at cause

-- A member that is admitted enters a group that nobody holds, or none. Of one that waits, the one that is named holds the group
-- which it enters; of one that follows, the one that is named leaves the group and passes it on; of one that is displaced, the one
-- that is named enters the group for which it waits. One that its own run keeps out, or whose group has no value, is so. A leg
-- that ends is to stop where a cause is named, which then holds, and else it is not.
abbrev pub MemberNames : Plan → Board → Event → Member → MemberFact → Type 0
MemberNames p b e who MemberFact.Admitted = EntersFreely p b who
MemberNames p b e who (MemberFact.Waits holds) =
    (group : Entrance) × Enters p b who group × (holder b group.name ≡ Some holds)
MemberNames p b e who (MemberFact.Follows before) = PassesOnTo p b before who
MemberNames p b e who (MemberFact.Displaced newer) =
    (group : Entrance) × Enters p b newer group × (waiter b group.name ≡ Some who)
MemberNames p b e who MemberFact.OwnRun = EntersItsRuns p b who
MemberNames p b e who (MemberFact.NoGroup fault) = Asks p b who (Err fault)
MemberNames p b e who (MemberFact.Closed result) = Unit {0}
MemberNames p b e who MemberFact.Taken = Unit {0}
MemberNames p b e who (MemberFact.Finished result) = GoesToItsEnd p b who
MemberNames p b e who (MemberFact.Stopped cause) = Accepts p b e → StopsFor p b who cause

-- Of a member that a newer one tells to stop, the newer one enters the group that it holds, and wants that.
abbrev pub TellerNames : Plan → Board → Member → Teller → Type 0
TellerNames p b who Teller.Cancel = Unit {0}
TellerNames p b who (Teller.Newer newer) =
    (group : Entrance) × Enters p b newer group × (holder b group.name ≡ Some who) × (group.cancel ≡ true)

-- What is told of a job that is judged under a status is so: of its condition, of the stop of its run, and of whether it waits in
-- vain for success.
abbrev pub IsJudgedFor : JobAt → Status → JobFact → Type 0
IsJudgedFor at s JobFact.Opened = job_condition at s ≡ Ok true
IsJudgedFor at s JobFact.RunStopped = (job_condition at s ≡ Ok false) × (at.run.stop ≡ true)
IsJudgedFor at s JobFact.Unsuccessful =
    (job_condition at s ≡ Ok false) × (at.run.stop ≡ false) × (waits_in_vain at.plan.condition s ≡ true)
IsJudgedFor at s JobFact.Untrue =
    (job_condition at s ≡ Ok false) × (at.run.stop ≡ false) × (waits_in_vain at.plan.condition s ≡ false)
IsJudgedFor at s (JobFact.Faulted fault) = job_condition at s ≡ Err fault

abbrev pub JobNames : Plan → Board → ℕ → JobFact → Type 0
JobNames p b j fact = (at : JobAt) × (job_at p b j ≡ Some at) × IsJudgedFor at (job_status (first_of j at) at) fact

-- Of the next step of a leg this holds.
abbrev pub OfNext : Plan → Board → ℕ → (LegAt → StepPlan → Type 0) → Type 0
OfNext p b l Is = (at : LegAt) × (leg_at p b l ≡ Some at) × ((step : StepPlan) × (next_step at ≡ Some step) × Is at step)

-- Of a step that is skipped after a failure, which waits in vain for success: its leg is not to stop, and the step that is named
-- is the first of it that counts as a failure. Of one whose leg is to stop, the cause that is named holds. One whose condition is
-- told to be untrue does not wait in vain, and the row skips it; one that is told to have a fault has it.
abbrev pub StepNames : Plan → Board → ℕ → StepFact → Type 0
StepNames p b l (StepFact.AfterFailure k) = OfNext p b l (λ at step.
    (waits_in_vain step.condition (leg_status at) ≡ true) × (is_stopping at ≡ false)
    × (first_place 0 (λ done. is_failure done.conclusion) at.leg.steps ≡ Some k))
StepNames p b l (StepFact.Stopping cause) = OfNext p b l (λ at step.
    (waits_in_vain step.condition (leg_status at) ≡ true) × (is_stopping at ≡ true)
    × (EndOnce b → CauseHolds l at cause))
StepNames p b l StepFact.Untrue = OfNext p b l (λ at step.
    (waits_in_vain step.condition (leg_status at) ≡ false) × (step_decision l at step ≡ Ok None))
StepNames p b l (StepFact.Faulted text fault) = OfNext p b l (λ at step. step_decision l at step ≡ Err fault)
StepNames p b l (StepFact.Exited code) = Unit {0}
StepNames p b l StepFact.NotStarted = Unit {0}
StepNames p b l StepFact.BadOutput = Unit {0}

abbrev pub ChangeNames : Plan → Board → Event → Change → Type 0
ChangeNames p b e (Change.Member who fact) = MemberNames p b e who fact
ChangeNames p b e (Change.Job j fact) = JobNames p b j fact
ChangeNames p b e (Change.Called l) = Unit {0}
ChangeNames p b e (Change.Step l fact) = StepNames p b l fact
ChangeNames p b e (Change.Stop who tells) = TellerNames p b who tells

-- Each change names such reasons, on the board before the entry.
abbrev pub ChangesNameTheRightMembers : Type 0
ChangesNameTheRightMembers = (p : Plan) (b : Board) (e : Event) → AllByRecursion (ChangeNames p b e) (changes p b e)

-- ---- Judge

-- the state of a job of which that became
abbrev pub judged_to : JobFact → JobState
judged_to JobFact.Opened = JobState.Open
judged_to JobFact.RunStopped = JobState.Shut Outcome.Cancelled
judged_to JobFact.Unsuccessful = JobState.Shut Outcome.Skipped
judged_to JobFact.Untrue = JobState.Shut Outcome.Skipped
judged_to (JobFact.Faulted fault) = JobState.Shut Outcome.Failure

-- The state into which the row judges a job, which was unjudged, is that of what is told to have become of it.
abbrev pub JobsAreJudgedAsTold : Type 0
JobsAreJudgedAsTold =
    (j : ℕ) (at : JobAt) (state : JobState) → judgement j at ≡ Ok state
    → (at.job.state ≡ JobState.Unjudged) × (state ≡ judged_to (judged_under at (job_status (first_of j at) at)))
