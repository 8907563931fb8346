-- A change that closes a run is made by its Close, and one of a job by its Judge.
use Rattle.std.proofs.Common.{◌≡◌, inl, inr, ℕ, Bool, true, false, List, [], ◌∷◌, ◌++◌, Contains, Option, Some, None, Result, Ok, Err, subst, refl, if◌then◌else◌}
use Rattle.std.specs.List.{AllByRecursion}
use Rattle.status_table.specs.Words.{Board, Entrance, Event, JobAt, LegAt, Member, Outcome, Plan, RunAt, StepCall, StepPlan, ValueFault, first_of, holder, is_own, is_stopping, job_at, job_status, leg_at, leg_entrance, leg_standing, next_after, next_step, run_at, run_entrance, run_standing, step_decision, waiter}
use Rattle.why_causes.proofs.MetFirst.{contains_cases, contains_none}
use Rattle.why_facts.specs.Queues as queueing
use Rattle.why_facts.specs.Stops.{cause_of_stop}
use Rattle.why_facts.specs.declared.fact.Change.{Change}
use Rattle.why_facts.specs.declared.fact.MemberFact.{MemberFact}
use Rattle.why_notes.specs.Changes as causes
use Rattle.why_notes.specs.Changes.{changes}

-- a run that is closed by its Close, with the result that the row gives it
abbrev ClosedBy : Plan → Board → Event → Outcome → Member → Type 0
ClosedBy p b e result (Member.Run r) = (at : RunAt) × (run_at p b r ≡ Some at) × (e ≡ Event.Close r) × (result ≡ causes.closing at.run.state at.run)
ClosedBy p b e result (Member.Leg l) = Unit {0}

abbrev MemberBy : Plan → Board → Event → Member → MemberFact → Type 0
MemberBy p b e who (MemberFact.Closed result) = ClosedBy p b e result who
MemberBy p b e who MemberFact.Admitted = Unit {0}
MemberBy p b e who (MemberFact.Waits holder) = Unit {0}
MemberBy p b e who (MemberFact.Follows before) = Unit {0}
MemberBy p b e who (MemberFact.Displaced by) = Unit {0}
MemberBy p b e who MemberFact.OwnRun = Unit {0}
MemberBy p b e who (MemberFact.NoGroup fault) = Unit {0}
MemberBy p b e who MemberFact.Taken = Unit {0}
MemberBy p b e who (MemberFact.Finished result) = Unit {0}
MemberBy p b e who (MemberFact.Stopped cause) = Unit {0}

-- what is known of a change by the entry that makes it
abbrev pub MadeBy : Plan → Board → Event → Change → Type 0
MadeBy p b e (Change.Member who fact) = MemberBy p b e who fact
MadeBy p b e (Change.Job j fact) =
    (at : JobAt) × (job_at p b j ≡ Some at) × (e ≡ Event.Judge j) × (fact ≡ causes.judged_under at (job_status (first_of j at) at))
MadeBy p b e (Change.Called l) = Unit {0}
MadeBy p b e (Change.Step l fact) = Unit {0}
MadeBy p b e (Change.Stop who tells) = Unit {0}

All : Plan → Board → Event → List Change → Type 0
All p b e cs = AllByRecursion (MadeBy p b e) cs

module _ (p : Plan) (b : Board) (e : Event) where
  -- ---- entering

  queued : (m holds : Member) (waited : Option Member) (cancel : Bool)
      → All p b e (Change.Member m (MemberFact.Waits holds) ∷ (queueing.displaces m waited ++ queueing.tells m cancel holds))
  unfolding All
  queued m holds None false = (tt, tt)
  queued m holds None true = (tt, (tt, tt))
  queued m holds (Some waits) false = (tt, (tt, tt))
  queued m holds (Some waits) true = (tt, (tt, (tt, tt)))

  held : (m : Member) (own : Option ℕ) (group : Entrance) (holds waited : Option Member) → All p b e (causes.enters_held m own group holds waited)
  unfolding All
  held m own group None waited = (tt, tt)
  held m own group (Some holds) waited = by (is_own own holds)
    where
      by : (c : Bool) → All p b e (if c then Change.Member m MemberFact.OwnRun ∷ [] else queueing.queues m group holds waited)
      by true = (tt, tt)
      by false = queued m holds waited group.cancel

  entered : (m : Member) (own : Option ℕ) (group : Result (Option Entrance) ValueFault) → All p b e (causes.enters_by b m own group)
  unfolding All
  entered m own (Err fault) = (tt, tt)
  entered m own (Ok None) = (tt, tt)
  entered m own (Ok (Some group)) = held m own group (holder b group.name) (waiter b group.name)

  opened : (r : ℕ) (found : Option RunAt) → All p b e (causes.opens b r found)
  unfolding All
  opened r None = tt
  opened r (Some at) = entered (Member.Run r) None (run_entrance at)

  asked : (l : ℕ) (found : Option LegAt) → All p b e (causes.asks b l found)
  unfolding All
  asked l None = tt
  asked l (Some at) = entered (Member.Leg l) (Some at.place.run) (leg_entrance at)

  -- ---- leaving

  left : (m : Member) (fact : MemberFact) (next : Option Member) → MemberBy p b e m fact → All p b e (Change.Member m fact ∷ causes.passes m next)
  unfolding All
  left m fact None by = (by, tt)
  left m fact (Some n) by = (by, (tt, tt))

  dropped : (l : ℕ) (found : Option LegAt) → All p b e (causes.drops b l found)
  unfolding All
  dropped l None = tt
  dropped l (Some at) = left (Member.Leg l) (MemberFact.Stopped (cause_of_stop l at)) (next_after b (leg_standing at.leg)) tt

  finished : (l : ℕ) (found : Option LegAt) → All p b e (causes.finishes b l found)
  unfolding All
  finished l None = tt
  finished l (Some at) = left (Member.Leg l) (causes.finished (is_stopping at) l at) (next_after b (leg_standing at.leg)) (by (is_stopping at))
    where
      by : (stopping : Bool) → MemberBy p b e (Member.Leg l) (causes.finished stopping l at)
      by true = tt
      by false = tt

  closed : (r : ℕ) (found : Option RunAt) → e ≡ Event.Close r → run_at p b r ≡ found → All p b e (causes.closes b r found)
  unfolding All
  closed r None is there = tt
  closed r (Some at) is there = left (Member.Run r) (MemberFact.Closed (causes.closing at.run.state at.run)) (next_after b (run_standing at.run)) (at, there, is, refl)

  -- ---- jobs and steps

  judged : (j : ℕ) (found : Option JobAt) → e ≡ Event.Judge j → job_at p b j ≡ found → All p b e (causes.judges j found)
  unfolding All
  judged j None is there = tt
  judged j (Some at) is there = ((at, there, is, refl), tt)

  begun : (l : ℕ) (at : LegAt) (step : StepPlan) (decision : Result (Option StepCall) ValueFault) → All p b e (causes.begun l at step decision ∷ [])
  unfolding All
  begun l at step (Ok (Some call)) = (tt, tt)
  begun l at step (Ok None) = (tt, tt)
  begun l at step (Err fault) = (tt, tt)

  begun_step : (l : ℕ) (at : LegAt) (step : Option StepPlan) → All p b e (causes.begins_step l at step)
  unfolding All
  begun_step l at None = tt
  begun_step l at (Some step) = begun l at step (step_decision l at step)

  begins : (l : ℕ) (found : Option LegAt) → All p b e (causes.begins l found)
  unfolding All
  begins l None = tt
  begins l (Some at) = begun_step l at (next_step at)

all_made : (p : Plan) (b : Board) (e : Event) → All p b e (changes p b e)
unfolding All
all_made p b (Event.Open r) = opened p b (Event.Open r) r (run_at p b r)
all_made p b (Event.Judge j) = judged p b (Event.Judge j) j (job_at p b j) refl refl
all_made p b (Event.Ask l) = asked p b (Event.Ask l) l (leg_at p b l)
all_made p b (Event.Drop l) = dropped p b (Event.Drop l) l (leg_at p b l)
all_made p b (Event.Take l) = (tt, tt)
all_made p b (Event.Begin l) = begins p b (Event.Begin l) l (leg_at p b l)
all_made p b (Event.End l a) = (tt, tt)
all_made p b (Event.Finish l) = finished p b (Event.Finish l) l (leg_at p b l)
all_made p b (Event.Close r) = closed p b (Event.Close r) r (run_at p b r) refl refl
all_made p b (Event.Cancel r) = (tt, tt)

pub among : {T : Type 0} (P : T → Type 0) (xs : List T) (x : T) → AllByRecursion P xs → Contains xs x → P x
among P [] x all there = absurd (contains_none x there)
among P (y ∷ ys) x all there = elim (contains_cases y ys x there) as (λ _. P x) [
  | inl e ↦ subst P e all.0
  | inr later ↦ among P ys x all.1 later
]

-- What an entry makes so it makes so as its row says.
pub made_by : (p : Plan) (b : Board) (e : Event) (c : Change) → Contains (changes p b e) c → MadeBy p b e c
unfolding All
made_by p b e c there = among (MadeBy p b e) (changes p b e) c (all_made p b e) there
