-- What changes name as their reasons is so on the board before the entry.
use Rattle.std.proofs.Common.{◌≡◌, inl, inr, ◌∙◌, ℕ, suc, ◌&&◌, ◌||◌, Bool, true, false, not, List, [], ◌∷◌, ◌++◌, Option, Some, None, Result, Ok, Err, refl, sym, ap, if◌then◌else◌, arith}
use Rattle.std.specs.List.{AllByRecursion, list_any}
use Rattle.std.proofs.lemmas.Bool.{true≢false}
use Rattle.std.proofs.lemmas.Bool.Decides.{nat_tests}
use Rattle.expr_value.specs.Functions.{is_success}
use Rattle.board_decisions.proofs.Lists.{and-right, no_some}
use Rattle.status_table.specs.Words.{Answer, Board, DoneStep, Entrance, Event, JobAt, LegAt, Member, Outcome, Plan, Reply, RunAt, Status, StepCall, StepPlan, ValueFault, dropped, first_of, first_place, holder, is_failure, is_own, is_stopping, job_at, job_condition, job_status, leaves, leg_at, leg_entrance, leg_standing, leg_status, may_drop, next_after, next_step, run_at, run_entrance, run_standing, status_of, step_decision, waiter}
use Rattle.status_table.specs.Row as table
use Rattle.status_table.specs.declared.fault.EventFault.{EventFault}
use Rattle.why_facts.specs.Queues as queueing
use Rattle.why_facts.specs.Stops.{cause_of_stop}
use Rattle.why_facts.specs.declared.fact.Change.{Change}
use Rattle.why_facts.specs.declared.fact.MemberFact.{MemberFact}
use Rattle.why_notes.specs.Changes as causes
use Rattle.why_notes.specs.Conditions.{waits_for_success, waits_in_vain}
use Rattle.why_notes.specs.Laws.{Accepts, Asks, ChangeNames, ChangesNameTheRightMembers, Enters, EntersItsRuns, IsJudgedFor, MemberNames, PassesOnTo, StepNames, StopsFor}
use Rattle.why_notes.proofs.Stops.{stops_are_caused}

-- each change of a list names the right reasons
Names : Plan → Board → Event → List Change → Type 0
Names p b e cs = AllByRecursion (ChangeNames p b e) cs

-- ---- entering

queued : (p : Plan) (b : Board) (e : Event) (m : Member) (group : Entrance) (holds : Member) (waited : Option Member) → Enters p b m group
    → holder b group.name ≡ Some holds → waiter b group.name ≡ waited → (cancel : Bool) → group.cancel ≡ cancel
    → Names p b e (Change.Member m (MemberFact.Waits holds) ∷ (queueing.displaces m waited ++ queueing.tells m cancel holds))
unfolding Names
queued p b e m group holds None enters h w false is = ((group, enters, h), tt)
queued p b e m group holds None enters h w true is = ((group, enters, h), ((group, enters, h, is), tt))
queued p b e m group holds (Some waits) enters h w false is = ((group, enters, h), ((group, enters, w), tt))
queued p b e m group holds (Some waits) enters h w true is = ((group, enters, h), ((group, enters, w), ((group, enters, h, is), tt)))

held : (p : Plan) (b : Board) (e : Event) (m : Member) (own : Option ℕ) (group : Entrance) (holds waited : Option Member) → Enters p b m group
    → ((h : Member) → is_own own h ≡ true → holder b group.name ≡ Some h → EntersItsRuns p b m)
    → holder b group.name ≡ holds → waiter b group.name ≡ waited → Names p b e (causes.enters_held m own group holds waited)
unfolding Names
held p b e m own group None waited enters owns h w = (inr (group, enters, h), tt)
held p b e m own group (Some holds) waited enters owns h w = by (is_own own holds) refl
  where
    by : (c : Bool) → is_own own holds ≡ c → Names p b e (if c then Change.Member m MemberFact.OwnRun ∷ [] else queueing.queues m group holds waited)
    by true is = (owns holds is h, tt)
    by false is = queued p b e m group holds waited enters h w group.cancel refl

entered : (p : Plan) (b : Board) (e : Event) (m : Member) (own : Option ℕ) (group : Result (Option Entrance) ValueFault)
    → ((given : Result (Option Entrance) ValueFault) → group ≡ given → Asks p b m given)
    → ((entrance : Entrance) → group ≡ Ok (Some entrance) → (h : Member) → is_own own h ≡ true → holder b entrance.name ≡ Some h → EntersItsRuns p b m)
    → Names p b e (causes.enters_by b m own group)
unfolding Names
entered p b e m own (Err fault) asks owns = (asks (Err fault) refl, tt)
entered p b e m own (Ok None) asks owns = (inl (asks (Ok None) refl), tt)
entered p b e m own (Ok (Some group)) asks owns =
    held p b e m own group (holder b group.name) (waiter b group.name) (asks (Ok (Some group)) refl) (owns group refl) refl refl

opened : (p : Plan) (b : Board) (e : Event) (r : ℕ) (found : Option RunAt) → run_at p b r ≡ found → Names p b e (causes.opens b r found)
unfolding Names
opened p b e r None is = tt
opened p b e r (Some at) is =
    entered p b e (Member.Run r) None (run_entrance at) (λ given h. (at, is, h)) (λ group g h own holds. true≢false (sym own))

-- the run that holds the name which a leg of it enters
own_run : (b : Board) (r : ℕ) (name : List ℕ) (h : Member) → is_own (Some r) h ≡ true → holder b name ≡ Some h → holder b name ≡ Some (Member.Run r)
own_run b r name (Member.Run s) own holds =
    let same : s ≡ r = grind (arith, nat_tests, own) in holds ∙ ap (λ n. Some (Member.Run n)) same
own_run b r name (Member.Leg l) own holds = absurd (true≢false (sym own))

asked : (p : Plan) (b : Board) (e : Event) (l : ℕ) (found : Option LegAt) → leg_at p b l ≡ found → Names p b e (causes.asks b l found)
unfolding Names
asked p b e l None is = tt
asked p b e l (Some at) is =
    entered p b e (Member.Leg l) (Some at.place.run) (leg_entrance at) (λ given h. (at, is, h))
    (λ group g h own holds. (at, is, (group, g, own_run b at.place.run group.name h own holds)))

-- ---- leaving

left : (p : Plan) (b : Board) (e : Event) (m : Member) (fact : MemberFact) (next : Option Member) → MemberNames p b e m fact
    → ((n : Member) → next ≡ Some n → PassesOnTo p b m n) → Names p b e (Change.Member m fact ∷ causes.passes m next)
unfolding Names
left p b e m fact None names passes = (names, tt)
left p b e m fact (Some n) names passes = (names, (passes n refl, tt))

-- a leg that the row drops is to stop
drops : (b : Board) (l : ℕ) (at : LegAt) (x : Board × Reply) → table.drop_leg b l at ≡ Ok x → is_stopping at ≡ true
drops b l at x h = guarded (may_drop at) (is_stopping at) refl h
  where
    guarded : (may stopping : Bool) → is_stopping at ≡ stopping
        → (if not may then Err EventFault.WrongState else (if stopping then Ok (leaves b (leg_standing at.leg) (dropped b l Outcome.Cancelled)) else Err EventFault.NotStopping)) ≡ Ok x
        → is_stopping at ≡ true
    guarded false stopping is k = cc
    guarded true true is k = is
    guarded true false is k = cc

dropped_for : (p : Plan) (b : Board) (l : ℕ) (at : LegAt) → leg_at p b l ≡ Some at → Accepts p b (Event.Drop l) → StopsFor p b (Member.Leg l) (cause_of_stop l at)
dropped_for p b l at is accepted =
    let stopping = drops b l at (accepted.new, accepted.reply) (sym (ap (table.drop_found b l) is) ∙ accepted.row) in
    (at, is, stopping, stops_are_caused p b l at accepted.ends is stopping)

dropped_leg : (p : Plan) (b : Board) (l : ℕ) (found : Option LegAt) → leg_at p b l ≡ found → Names p b (Event.Drop l) (causes.drops b l found)
unfolding Names
dropped_leg p b l None is = tt
dropped_leg p b l (Some at) is =
    left p b (Event.Drop l) (Member.Leg l) (MemberFact.Stopped (cause_of_stop l at)) (next_after b (leg_standing at.leg)) (dropped_for p b l at is) (λ n h. (at, is, h))

finished_names : (p : Plan) (b : Board) (e : Event) (stopping : Bool) (l : ℕ) (at : LegAt) → leg_at p b l ≡ Some at → is_stopping at ≡ stopping
    → MemberNames p b e (Member.Leg l) (causes.finished stopping l at)
finished_names p b e true l at is stops = λ accepted. (at, is, stops, stops_are_caused p b l at accepted.ends is stops)
finished_names p b e false l at is stops = (at, is, stops)

finished : (p : Plan) (b : Board) (e : Event) (l : ℕ) (found : Option LegAt) → leg_at p b l ≡ found → Names p b e (causes.finishes b l found)
unfolding Names
finished p b e l None is = tt
finished p b e l (Some at) is =
    left p b e (Member.Leg l) (causes.finished (is_stopping at) l at) (next_after b (leg_standing at.leg)) (finished_names p b e (is_stopping at) l at is refl)
    (λ n h. (at, is, h))

closed : (p : Plan) (b : Board) (e : Event) (r : ℕ) (found : Option RunAt) → run_at p b r ≡ found → Names p b e (causes.closes b r found)
unfolding Names
closed p b e r None is = tt
closed p b e r (Some at) is =
    left p b e (Member.Run r) (MemberFact.Closed (causes.closing at.run.state at.run)) (next_after b (run_standing at.run)) tt
    (λ n h. (at, is, h))

-- ---- jobs

judged_for : (at : JobAt) (s : Status) (stop vain : Bool) (holds : Result Bool ValueFault) → at.run.stop ≡ stop → waits_in_vain at.plan.condition s ≡ vain
    → job_condition at s ≡ holds → IsJudgedFor at s (causes.judged stop vain holds)
judged_for at s stop vain (Ok true) told waits is = is
judged_for at s true vain (Ok false) told waits is = (is, told)
judged_for at s false true (Ok false) told waits is = (is, told, waits)
judged_for at s false false (Ok false) told waits is = (is, told, waits)
judged_for at s stop vain (Err fault) told waits is = is

judged : (p : Plan) (b : Board) (e : Event) (j : ℕ) (found : Option JobAt) → job_at p b j ≡ found → Names p b e (causes.judges j found)
unfolding Names
judged p b e j None is = tt
judged p b e j (Some at) is =
    let s = job_status (first_of j at) at in
    ((at, is, judged_for at s at.run.stop (waits_in_vain at.plan.condition s) (job_condition at s) refl refl refl), tt)

-- ---- steps

none_first : {A : Type 0} (k : ℕ) (t : A → Bool) (xs : List A) → first_place k t xs ≡ None → list_any t xs ≡ false
none_first k t [] h = refl
none_first {A} k t (x ∷ xs) h = step (t x) refl h (none_first (suc k) t xs)
  where
    step : (c : Bool) → t x ≡ c → (if c then Some k else first_place (suc k) t xs) ≡ None → (first_place (suc k) t xs ≡ None → list_any t xs ≡ false)
        → (c || list_any t xs) ≡ false
    step true is e later = absurd (no_some k (sym e))
    step false is e later = later e

-- a leg that is not to stop, and of which no step counts as a failure, has success so far
success_so_far : (at : LegAt) → is_stopping at ≡ false → list_any (λ (done : DoneStep). is_failure done.conclusion) at.leg.steps ≡ false
    → is_success (leg_status at) ≡ true
success_so_far at going none =
    ap (λ c. is_success (status_of (if c then Outcome.Cancelled else (if list_any (λ (done : DoneStep). is_failure done.conclusion) at.leg.steps then Outcome.Failure else Outcome.Success)))) going
    ∙ ap (λ c. is_success (status_of (if c then Outcome.Failure else Outcome.Success))) none

in_vain : (waits succeeds : Bool) → (waits && not succeeds) ≡ true → succeeds ≡ true → ⊥
in_vain waits true vain success = true≢false (sym (and-right waits false vain))
in_vain waits false vain success = true≢false (sym success)

module _ (p : Plan) (b : Board) (l : ℕ) (at : LegAt) (step : StepPlan) (is : leg_at p b l ≡ Some at) (next : next_step at ≡ Some step) where
  after_failure : waits_in_vain step.condition (leg_status at) ≡ true → is_stopping at ≡ false → (place : Option ℕ)
      → first_place 0 (λ (done : DoneStep). is_failure done.conclusion) at.leg.steps ≡ place → StepNames p b l (causes.after_failure place)
  after_failure vain going None h =
      absurd (in_vain (waits_for_success step.condition) (is_success (leg_status at)) vain
      (success_so_far at going (none_first 0 (λ (done : DoneStep). is_failure done.conclusion) at.leg.steps h)))
  after_failure vain going (Some k) h = (at, is, (step, next, (vain, going, h)))

  skipped_in_vain : waits_in_vain step.condition (leg_status at) ≡ true → (stopping : Bool) → is_stopping at ≡ stopping
      → StepNames p b l (causes.skipped_in_vain stopping l at)
  skipped_in_vain vain true stops = (at, is, (step, next, (vain, stops, λ ends. stops_are_caused p b l at ends is stops)))
  skipped_in_vain vain false stops =
      after_failure vain stops (first_place 0 (λ (done : DoneStep). is_failure done.conclusion) at.leg.steps) refl

  skipped : step_decision l at step ≡ Ok None → (vain : Bool) → waits_in_vain step.condition (leg_status at) ≡ vain → StepNames p b l (causes.skipped_by vain l at)
  skipped skips true waits = skipped_in_vain waits (is_stopping at) refl
  skipped skips false waits = (at, is, (step, next, (waits, skips)))

  begun : (e : Event) (decision : Result (Option StepCall) ValueFault) → step_decision l at step ≡ decision → Names p b e (causes.begun l at step decision ∷ [])
  unfolding Names
  begun e (Ok (Some call)) decided = (tt, tt)
  begun e (Ok None) decided = (skipped decided (waits_in_vain step.condition (leg_status at)) refl, tt)
  begun e (Err fault) decided = ((at, is, (step, next, decided)), tt)

begun_step : (p : Plan) (b : Board) (e : Event) (l : ℕ) (at : LegAt) → leg_at p b l ≡ Some at → (step : Option StepPlan) → next_step at ≡ step
    → Names p b e (causes.begins_step l at step)
unfolding Names
begun_step p b e l at is None next = tt
begun_step p b e l at is (Some step) next = begun p b l at step is next e (step_decision l at step) refl

begins : (p : Plan) (b : Board) (e : Event) (l : ℕ) (found : Option LegAt) → leg_at p b l ≡ found → Names p b e (causes.begins l found)
unfolding Names
begins p b e l None is = tt
begins p b e l (Some at) is = begun_step p b e l at is (next_step at) refl

answered : (p : Plan) (b : Board) (l : ℕ) (a : Answer) → StepNames p b l (causes.answered a)
answered p b l (Answer.Exit code outputs env) = tt
answered p b l Answer.NotStarted = tt
answered p b l Answer.BadOutput = tt

-- ---- the table

pub changes_name_the_right_members : ChangesNameTheRightMembers
unfolding Names
changes_name_the_right_members p b (Event.Open r) = opened p b (Event.Open r) r (run_at p b r) refl
changes_name_the_right_members p b (Event.Judge j) = judged p b (Event.Judge j) j (job_at p b j) refl
changes_name_the_right_members p b (Event.Ask l) = asked p b (Event.Ask l) l (leg_at p b l) refl
changes_name_the_right_members p b (Event.Drop l) = dropped_leg p b l (leg_at p b l) refl
changes_name_the_right_members p b (Event.Take l) = (tt, tt)
changes_name_the_right_members p b (Event.Begin l) = begins p b (Event.Begin l) l (leg_at p b l) refl
changes_name_the_right_members p b (Event.End l a) = (answered p b l a, tt)
changes_name_the_right_members p b (Event.Finish l) = finished p b (Event.Finish l) l (leg_at p b l) refl
changes_name_the_right_members p b (Event.Close r) = closed p b (Event.Close r) r (run_at p b r) refl
changes_name_the_right_members p b (Event.Cancel r) = (tt, tt)
