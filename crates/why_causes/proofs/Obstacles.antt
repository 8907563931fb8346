-- Where others keep a job, a run or a leg from going on, or bring a job to its result, they are named.
use Rattle.std.proofs.Common.{◌≡◌, ◌⊎◌, inl, inr, ◌∙◌, ap, sym, refl, subst, ℕ, zero, suc, ◌+◌, ◌-◌, arith, Bool, true, false, List, [], ◌∷◌, ◌++◌, Option, Some, None, slice_get, map, true≢false}
use Rattle.std.specs.Prelude.{◌≢◌, Contains, Result, Ok, Err, not, ◌&&◌, ◌||◌, if◌then◌else◌}
use Rattle.std.specs.List.{list_all, list_any}
use Rattle.status_table.specs.Words.{Board, Entrance, Event, Job, JobPlace, JobState, Leg, LegState, Outcome, Reply, Row, Run, RunState, ValueFault, ask_found, board_legs, close_found, close_run, closed, event_row, first_number, first_of, has_failed, holds_at, is_fresh, is_full, is_going, is_open, is_stopping, job_condition, job_has_ended, job_status, jobs_have_ended, judge_found, judge_job, judged_state, judgement_by, leaves, leg_enters, leg_entrance, legs_result, needs_have_ended, run_closes, run_result, run_standing, was_cancelled}
use Rattle.why_facts.specs.declared.fact.MemberFact.{MemberFact}
use Rattle.why_facts.specs.declared.notes.MemberNote.{MemberNote}
use Rattle.why_facts.specs.declared.notes.JobNotes.{JobNotes}
use Rattle.why_causes.specs.Agrees.{LegAgrees, LegNow, LegStill, RunAgrees, RunNow}
use Rattle.why_causes.specs.Causes.{asked, causes, first_job, first_leg, fresh_asked, going_asked, job_asked, job_sought, job_state_asked, jobs_asked, leg_asked, leg_last, leg_noted_asked, leg_sought, needs_asked, run_asked, run_fact_asked, run_last, run_noted_asked, slots_asked, stopping_asked}
use Rattle.why_causes.specs.Obstacles.{AsksExactly, IsOpenJob, IsOpenNeed, LegsOfResultsAreNamed, OpenJobsAreNamed, OpenNeedsAreNamed, TakenSlotsAreNamed, TakesSlot}
use Rattle.why_causes.proofs.MetFirst.{contains_at, contains_cases, contains_here, contains_later, contains_none}
use Rattle.why_causes.specs.Stands.{RunIs}
use Rattle.why_causes.specs.declared.question.Question.{Question}
use Rattle.why_causes.specs.declared.sought.Sought.{Sought}
use Rattle.status_table.specs.declared.fault.EventFault.{EventFault}
use Rattle.board_decisions.proofs.Lists.{no_some, same_some}
use Rattle.why_causes.proofs.Noting.{notes_are_made}
use Rattle.status_table.proofs.Counts.{zip-left}
use Rattle.status_table.proofs.Found.{leg_item, leg_stands, run_stands}
use Rattle.status_table.proofs.Sound.{is_numbered_in}

-- ---- lists of questions

abbrev is_some_asked : List Question → Type 0
is_some_asked [] = ⊥
is_some_asked (q ∷ qs) = Unit {0}

no_cons : (q : Question) (qs : List Question) → q ∷ qs ≢ []
no_cons q qs none = subst is_some_asked none tt

some-one : (b any : Bool) (q : Question) (qs : List Question) → (any ≡ true → qs ≢ []) → (b || any) ≡ true → (if b then q ∷ qs else qs) ≢ []
some-one true any q qs more is none = no_cons q qs none
some-one false any q qs more is none = more is none

any-one : (b any : Bool) (q : Question) (qs : List Question) → (qs ≢ [] → any ≡ true) → (if b then q ∷ qs else qs) ≢ [] → (b || any) ≡ true
any-one true any q qs more some = refl
any-one false any q qs more some = more some

some_asked : {A : Type 0} (ask : ℕ → Question) (n : ℕ) (test : A → Bool) (xs : List A) → list_any test xs ≡ true → asked ask n test xs ≢ []
some_asked ask n test [] any none = true≢false (sym any)
some_asked ask n test (x ∷ xs) any none =
    some-one (test x) (list_any test xs) (ask n) (asked ask (suc n) test xs) (some_asked ask (suc n) test xs) any none

any_asked : {A : Type 0} (ask : ℕ → Question) (n : ℕ) (test : A → Bool) (xs : List A) → asked ask n test xs ≢ [] → list_any test xs ≡ true
any_asked ask n test [] some = absurd (some refl)
any_asked ask n test (x ∷ xs) some =
    any-one (test x) (list_any test xs) (ask n) (asked ask (suc n) test xs) (any_asked ask (suc n) test xs) some

same_any : {A : Type 0} (s t : A → Bool) (xs : List A) → ((x : A) → s x ≡ t x) → list_any s xs ≡ list_any t xs
same_any s t [] same = refl
same_any s t (x ∷ xs) same = (λ i. same x i || list_any s xs) ∙ ap (λ b. t x || b) (same_any s t xs same)

-- Each item that passes is asked about.
pub item_asked : {A : Type 0} (ask : ℕ → Question) (n : ℕ) (test : A → Bool) (xs : List A) (k : ℕ) (x : A) → slice_get xs k ≡ Some x → test x ≡ true
    → (i : ℕ) × (slice_get (asked ask n test xs) i ≡ Some (ask (n + k)))
item_asked ask n test [] k x at is = absurd (no_some x at)
item_asked {A} ask n test (y ∷ xs) zero x at is =
    (0, here (test y) (ap test (same_some y x at) ∙ is))
  where
    here : (b : Bool) → b ≡ true → slice_get (if b then ask n ∷ asked ask (suc n) test xs else asked ask (suc n) test xs) 0 ≡ Some (ask (n + 0))
    here true e = ap (λ m. Some (ask m)) (omega arith)
    here false e = absurd (true≢false (sym e))
item_asked {A} ask n test (y ∷ xs) (suc k) x at is =
    let more = item_asked ask (suc n) test xs k x at is in
    there (test y) more.0 (more.1 ∙ ap (λ m. Some (ask m)) (omega arith))
  where
    there : (b : Bool) (i : ℕ) → slice_get (asked ask (suc n) test xs) i ≡ Some (ask (n + suc k))
        → (m : ℕ) × (slice_get (if b then ask n ∷ asked ask (suc n) test xs else asked ask (suc n) test xs) m ≡ Some (ask (n + suc k)))
    there true i e = (suc i, e)
    there false i e = (i, e)

-- Nothing is asked about but items that pass.
pub record AskedOf {A : Type 0} (ask : ℕ → Question) (n : ℕ) (test : A → Bool) (xs : List A) (q : Question) : Type 0 where
  pub place : ℕ
  pub item : A
  pub there : slice_get xs place ≡ Some item
  pub passes : test item ≡ true
  pub is : q ≡ ask (n + place)

pub asked_item : {A : Type 0} (ask : ℕ → Question) (n : ℕ) (test : A → Bool) (xs : List A) (q : Question) → Contains (asked ask n test xs) q → AskedOf ask n test xs q
asked_item ask n test [] q there = absurd (contains_none q there)
asked_item {A} ask n test (y ∷ xs) q there = by (test y) refl (λ k. later (asked_item ask (suc n) test xs q k)) there
  where
    later : AskedOf ask (suc n) test xs q → AskedOf ask n test (y ∷ xs) q
    later x =
        let next : suc n + x.place ≡ n + suc x.place = omega arith in
        record { place = suc x.place; item = x.item; there = x.there; passes = x.passes; is = x.is ∙ ap ask next }

    by : (b : Bool) → test y ≡ b → (Contains (asked ask (suc n) test xs) q → AskedOf ask n test (y ∷ xs) q)
        → Contains (if b then ask n ∷ asked ask (suc n) test xs else asked ask (suc n) test xs) q → AskedOf ask n test (y ∷ xs) q
    by true passes after k = elim (contains_cases (ask n) (asked ask (suc n) test xs) q k) as (λ _. AskedOf ask n test (y ∷ xs) q) [
      | inl e ↦ let none : n ≡ n + 0 = omega arith in record { place = 0; item = y; there = refl; passes = passes; is = sym e ∙ ap ask none }
      | inr more ↦ after more
    ]
    by false passes after k = after k

-- Those items are asked about whose numbers are so.
asks_exactly : {A : Type 0} (ask : ℕ → Question) (n : ℕ) (test : A → Bool) (xs : List A) (Is : ℕ → Type 0)
    → ((m : ℕ) → Is m → (k : ℕ) × (x : A) × (slice_get xs k ≡ Some x) × (test x ≡ true) × (m ≡ n + k))
    → ((k : ℕ) (x : A) → slice_get xs k ≡ Some x → test x ≡ true → Is (n + k)) → AsksExactly (asked ask n test xs) ask Is
asks_exactly ask n test xs Is of are = record {
  all = λ m so. let x = of m so in let there = item_asked ask n test xs x.0 x.1 x.2 x.3 in
      subst (λ i. Contains (asked ask n test xs) (ask i)) (sym x.4) (contains_at (asked ask n test xs) there.0 (ask (n + x.0)) there.1);
  alone = λ q there. let x = asked_item ask n test xs q there in (n + x.place, are x.place x.item x.there x.passes, x.is);
}

-- ---- rows that refuse

abbrev accepted : Row → Type 0
accepted (Ok x) = Unit {0}
accepted (Err f) = ⊥

refused : (x : Board × Reply) (f : EventFault) (c : Bool) → (if c then Ok x else Err f) ≡ Err f → c ≡ false
refused x f true h = absurd (subst accepted h tt)
refused x f false h = refl

refuses : (x : Board × Reply) (f : EventFault) (c : Bool) → c ≡ false → (if c then Ok x else Err f) ≡ Err f
refuses x f true h = absurd (true≢false h)
refuses x f false h = refl

going_is : (s : RunState) → is_going s ≡ true → s ≡ RunState.Going
going_is RunState.New h = absurd (true≢false (sym h))
going_is RunState.Waiting h = absurd (true≢false (sym h))
going_is RunState.Going h = refl
going_is (RunState.Closed result) h = absurd (true≢false (sym h))

-- ---- a job that waits for what it needs

need-left : (b all : Bool) (q : Question) (qs : List Question) → (all ≡ false → qs ≢ []) → (b && all) ≡ false → (if b then qs else q ∷ qs) ≢ []
need-left true all q qs more is none = more is none
need-left false all q qs more is none = no_cons q qs none

left-need : (b all : Bool) (q : Question) (qs : List Question) → (qs ≢ [] → all ≡ false) → (if b then qs else q ∷ qs) ≢ [] → (b && all) ≡ false
left-need true all q qs more some = more some
left-need false all q qs more some = refl

abbrev ended_at : ℕ → Run → ℕ → Bool
ended_at first run need = holds_at (map (job_has_ended run) run.jobs) (need - first)

needs_left : (first : ℕ) (run : Run) (needs : List ℕ) → list_all (ended_at first run) needs ≡ false → needs_asked first run needs ≢ []
needs_left first run [] is none = true≢false is
needs_left first run (n ∷ ns) is none =
    need-left (ended_at first run n) (list_all (ended_at first run) ns) (Question.Job n) (needs_asked first run ns) (needs_left first run ns) is none

left_needs : (first : ℕ) (run : Run) (needs : List ℕ) → needs_asked first run needs ≢ [] → list_all (ended_at first run) needs ≡ false
left_needs first run [] some = absurd (some refl)
left_needs first run (n ∷ ns) some =
    left-need (ended_at first run n) (list_all (ended_at first run) ns) (Question.Job n) (needs_asked first run ns) (left_needs first run ns) some

-- The needs that are asked about are those that have not ended.
needs_all : (first : ℕ) (run : Run) (needs : List ℕ) (n : ℕ) → Contains needs n → ended_at first run n ≡ false → Contains (needs_asked first run needs) (Question.Job n)
needs_all first run [] n there unended = absurd (contains_none n there)
needs_all first run (m ∷ ms) n there unended = by (ended_at first run m) refl (λ more. needs_all first run ms n more unended) (contains_cases m ms n there)
  where
    rest : List Question
    rest = needs_asked first run ms

    by : (b : Bool) → ended_at first run m ≡ b → (Contains ms n → Contains rest (Question.Job n)) → (m ≡ n) ⊎ Contains ms n
        → Contains (if b then rest else Question.Job m ∷ rest) (Question.Job n)
    by true is later (inl same) = absurd (true≢false (sym is ∙ ap (ended_at first run) same ∙ unended))
    by true is later (inr more) = later more
    by false is later (inl same) = subst (λ k. Contains (Question.Job m ∷ rest) (Question.Job k)) same (contains_here (Question.Job m) rest)
    by false is later (inr more) = contains_later (Question.Job m) rest (Question.Job n) (later more)

abbrev OpenNeed : ℕ → Run → List ℕ → Question → Type 0
OpenNeed first run needs q = (n : ℕ) × Contains needs n × (ended_at first run n ≡ false) × (q ≡ Question.Job n)

needs_alone : (first : ℕ) (run : Run) (needs : List ℕ) (q : Question) → Contains (needs_asked first run needs) q → OpenNeed first run needs q
needs_alone first run [] q there = absurd (contains_none q there)
needs_alone first run (m ∷ ms) q there = by (ended_at first run m) refl (λ k. longer (needs_alone first run ms q k)) there
  where
    rest : List Question
    rest = needs_asked first run ms

    longer : OpenNeed first run ms q → OpenNeed first run (m ∷ ms) q
    longer x = (x.0, contains_later m ms x.0 x.1, x.2, x.3)

    by : (b : Bool) → ended_at first run m ≡ b → (Contains rest q → OpenNeed first run (m ∷ ms) q) → Contains (if b then rest else Question.Job m ∷ rest) q
        → OpenNeed first run (m ∷ ms) q
    by true is later k = later k
    by false is later k = elim (contains_cases (Question.Job m) rest q k) as (λ _. OpenNeed first run (m ∷ ms) q) [
      | inl e ↦ (m, contains_here m ms, is, sym e)
      | inr more ↦ later more
    ]

judge-refused : (b : Board) (place : JobPlace) (s : JobState) (c : Bool) → judge_job b place (if c then Ok s else Err EventFault.NeedsOpen) ≡ Err EventFault.NeedsOpen → c ≡ false
judge-refused b place s true h = absurd (subst accepted h tt)
judge-refused b place s false h = refl

judge-refuses : (b : Board) (place : JobPlace) (s : JobState) (c : Bool) → c ≡ false → judge_job b place (if c then Ok s else Err EventFault.NeedsOpen) ≡ Err EventFault.NeedsOpen
judge-refuses b place s true h = absurd (true≢false h)
judge-refuses b place s false h = refl

pub open_needs : OpenNeedsAreNamed
open_needs a j at worker play is going unjudged =
    let state = judged_state at.run.stop (job_condition at (job_status first at)) in
    record {
      named = record {
        all = λ h. subst (λ qs. qs ≢ []) (sym below) (needs_left first at.run at.plan.needs (judge-refused a.board at.place state ended (sym row ∙ h)));
        alone = λ some. row ∙ judge-refuses a.board at.place state ended (left_needs first at.run at.plan.needs (subst (λ qs. qs ≢ []) below some));
      };
      exactly = subst (λ qs. AsksExactly qs Question.Job (IsOpenNeed at)) (sym below) (record {
        all = λ n so. needs_all first at.run at.plan.needs n so.needed so.unended;
        alone = λ q there. let x = needs_alone first at.run at.plan.needs q there in (x.0, record { needed = x.1; unended = x.2 }, x.3);
      });
    }
  where
    first : ℕ
    first = first_number at

    ended : Bool
    ended = needs_have_ended first at.run at.plan

    ready : ℕ → Row
    ready f =
        judge_job a.board at.place (if needs_have_ended f at.run at.plan then Ok (judged_state at.run.stop (job_condition at (job_status f at))) else Err EventFault.NeedsOpen)

    placed : first_of j at ≡ first
    placed = ap (λ n. n - at.place.job) (sym (is_numbered_in a.plan a.board j at play is).number)

    row : event_row a.plan a.board worker (Event.Judge j) ≡ ready first
    row =
        ap (judge_found a.board j) is
        ∙ ap (λ s. judge_job a.board at.place (judgement_by j at s at.job.state)) (going_is at.run.state going)
        ∙ ap (λ s. judge_job a.board at.place (judgement_by j at RunState.Going s)) unjudged
        ∙ ap ready placed

    below : causes a (Question.Job j) ≡ needs_asked first at.run at.plan.needs
    below =
        ap (job_asked a j) is
        ∙ ap (job_state_asked at (slice_get a.notes.jobs j)) unjudged
        ∙ ap (λ g. if g then needs_asked first at.run at.plan.needs else Question.Run at.place.run ∷ []) going

-- ---- a run that waits for its jobs

not-both : (b c d : Bool) → c ≡ not d → (not b || c) ≡ not (b && d)
not-both true c d e = e
not-both false c d e = refl

not-true : (b : Bool) → not b ≡ true → b ≡ false
not-true true h = absurd (true≢false (sym h))
not-true false h = refl

any_unended : (run : Run) (jobs : List Job) → list_any (job_sought Sought.Unended run) jobs ≡ not (list_all (job_has_ended run) jobs)
any_unended run [] = refl
any_unended run (x ∷ xs) =
    not-both (job_has_ended run x) (list_any (job_sought Sought.Unended run) xs) (list_all (job_has_ended run) xs) (any_unended run xs)

pub open_jobs : OpenJobsAreNamed
open_jobs p es a r at worker account is going =
    record {
      jobs = jobs_asked at Sought.Unended;
      below = below;
      named = record {
        all = λ h. some_asked Question.Job _ _ at.run.jobs (any_unended at.run at.run.jobs ∙ ap not (refused ending EventFault.NeedsOpen (jobs_have_ended at.run) (sym row ∙ h)));
        alone = λ some. row ∙ refuses ending EventFault.NeedsOpen (jobs_have_ended at.run)
            (not-true (jobs_have_ended at.run) (sym (any_unended at.run at.run.jobs) ∙ any_asked Question.Job _ _ at.run.jobs some));
      };
      exactly = asks_exactly Question.Job (first_job at.plan.jobs) (job_sought Sought.Unended at.run) at.run.jobs (IsOpenJob at)
          (λ n so. (so.place, so.job, so.there, ap not so.unended, so.numbered))
          (λ k job there unended. record { place = k; job = job; there = there; unended = not-true (job_has_ended at.run job) unended; numbered = refl });
    }
  where
    ending : Board × Reply
    ending = leaves a.board (run_standing at.run) (closed a.board r (run_result at.run))

    row : event_row a.plan a.board worker (Event.Close r) ≡ (if jobs_have_ended at.run then run_closes a.board r at.run (run_result at.run) else Err EventFault.NeedsOpen)
    row = ap (close_found a.board r) is ∙ ap (close_run a.board r at.run) (going_is at.run.state going)

    by_fact : (fact : MemberFact) → RunIs fact at.run.state → run_fact_asked r at fact ≡ going_asked r at
    by_fact MemberFact.Admitted so = refl
    by_fact (MemberFact.Waits holder) so = absurd (true≢false (sym going ∙ ap is_going so))
    by_fact (MemberFact.Follows before) so = refl
    by_fact (MemberFact.Displaced by) so = absurd (true≢false (sym going ∙ ap is_going so))
    by_fact MemberFact.OwnRun so = absurd so
    by_fact (MemberFact.NoGroup f) so = absurd (true≢false (sym going ∙ ap is_going so))
    by_fact (MemberFact.Closed result) so = absurd (true≢false (sym going ∙ ap is_going so))
    by_fact MemberFact.Taken so = absurd so
    by_fact (MemberFact.Finished result) so = absurd so
    by_fact (MemberFact.Stopped cause) so = absurd so

    by_last : (last : Option MemberNote) → RunNow last at.run.state → run_noted_asked r at last ≡ going_asked r at
    by_last None so = absurd (true≢false (sym going ∙ ap is_going so))
    by_last (Some note) so = by_fact note.fact so

    below : causes a (Question.Run r) ≡ going_asked r at
    below =
        let noted = zip-left RunAgrees a.notes.runs a.board.runs r at.run (run_stands a.plan a.board r at is).run (notes_are_made p es a account).agrees.runs in
        ap (run_asked a r) is ∙ ap (λ n. run_noted_asked r at (run_last n)) noted.1 ∙ by_last noted.0.last noted.2.state

-- ---- a leg that waits for a slot

and-first : (a b c : Bool) → (a && b && c) ≡ true → (a && b) ≡ true
and-first true true c h = refl
and-first true false c h = absurd (true≢false (sym h))
and-first false b c h = absurd (true≢false (sym h))

and-third : (a b c : Bool) → (a && b && c) ≡ true → c ≡ true
and-third true true c h = h
and-third true false c h = absurd (true≢false (sym h))
and-third false b c h = absurd (true≢false (sym h))

abbrev slots_full : Row → Type 0
slots_full (Ok x) = ⊥
slots_full (Err f) = by f
  where
    by : EventFault → Type 0
    by EventFault.SlotsFull = Unit {0}
    by _ = ⊥

some-full : (f : Bool) (qs : List Question) → (if f then qs else []) ≢ [] → f ≡ true
some-full true qs some = refl
some-full false qs some = absurd (some refl)

pub taken_slots : TakenSlotsAreNamed
taken_slots p es a l at worker account is may =
    record {
      legs = slots_asked l at;
      below = below;
      taken = λ h. subst (λ qs. AsksExactly qs Question.Leg (TakesSlot l at)) (sym (ap (λ f. if f then taken else []) (full (sym h ∙ row))))
          (asks_exactly Question.Leg (l - at.place.leg) (leg_sought Sought.UnderWay) at.job.legs (TakesSlot l at)
          (λ n so. (so.place, so.leg, so.there, so.under_way, so.numbered))
          (λ k leg there under. record { place = k; leg = leg; there = there; under_way = under; numbered = refl }));
      alone = λ some. row ∙ ap asking (some-full (is_full at.job_plan at.job) taken some);
    }
  where
    taken : List Question
    taken = asked Question.Leg (l - at.place.leg) (leg_sought Sought.UnderWay) at.job.legs

    asking : Bool → Row
    asking f = if f then Err EventFault.SlotsFull else (if is_stopping at then Err EventFault.Stopping else leg_enters a.board l at (leg_entrance at))

    row : event_row a.plan a.board worker (Event.Ask l) ≡ asking (is_full at.job_plan at.job)
    row = ap (ask_found a.board l) is ∙ ap (λ m. if not m then Err EventFault.WrongState else asking (is_full at.job_plan at.job)) may

    by_all : (f s : Bool) (entrance : Result (Option Entrance) ValueFault)
        → slots_full (if f then Err EventFault.SlotsFull else (if s then Err EventFault.Stopping else leg_enters a.board l at entrance)) → f ≡ true
    by_all true s entrance h = refl
    by_all false true entrance h = absurd h
    by_all false false (Ok group) h = absurd h
    by_all false false (Err f) h = absurd h

    full : Err EventFault.SlotsFull ≡ asking (is_full at.job_plan at.job) → is_full at.job_plan at.job ≡ true
    full h = by_all (is_full at.job_plan at.job) (is_stopping at) (leg_entrance at) (subst slots_full h tt)

    fresh : is_fresh at.leg.state ≡ true
    fresh = and-third (is_going at.run.state) (is_open at.job.state) (is_fresh at.leg.state) may

    other : (s : LegState) → is_fresh s ≡ false → at.leg.state ≡ s → ⊥
    other s stale so = true≢false (sym fresh ∙ ap is_fresh so ∙ stale)

    by_fact : (fact : MemberFact) → LegStill fact at.leg.state → ⊥
    by_fact MemberFact.Admitted so = other LegState.Admitted refl so
    by_fact (MemberFact.Waits holder) so = other LegState.Waiting refl so
    by_fact (MemberFact.Follows before) so = other LegState.Admitted refl so
    by_fact (MemberFact.Displaced by) so = other (LegState.Ended Outcome.Cancelled false) refl so
    by_fact MemberFact.OwnRun so = other (LegState.Ended Outcome.Cancelled false) refl so
    by_fact (MemberFact.NoGroup f) so = other (LegState.Ended Outcome.Failure false) refl so
    by_fact (MemberFact.Closed result) so = so
    by_fact MemberFact.Taken so = other (LegState.Running so.0 so.1.0) refl so.1.1
    by_fact (MemberFact.Finished result) so = other (LegState.Ended result so.0) refl so.1
    by_fact (MemberFact.Stopped cause) so = other (LegState.Ended Outcome.Cancelled false) refl so

    by_last : (last : Option MemberNote) → LegNow last at.leg.state → leg_noted_asked l at last ≡ fresh_asked l at
    by_last None so = refl
    by_last (Some note) so = absurd (by_fact note.fact so)

    below : causes a (Question.Leg l) ≡ stopping_asked l at ++ slots_asked l at
    below =
        let there = leg_item a.plan a.board l at (leg_stands a.plan a.board l at is) in
        let noted = zip-left LegAgrees a.notes.legs (board_legs a.board) l at.leg there (notes_are_made p es a account).agrees.legs in
        ap (leg_asked a l) is ∙ ap (λ n. leg_noted_asked l at (leg_last n)) noted.1 ∙ by_last noted.0.last noted.2.state
        ∙ ap (λ g. if not g then Question.Job at.job_plan.number ∷ [] else stopping_asked l at ++ slots_asked l at)
        (and-first (is_going at.run.state) (is_open at.job.state) (is_fresh at.leg.state) may)

-- ---- a job by its legs

-- legs that did not succeed are asked about by the result that they come to
unsuccessful_legs : (n : ℕ) (legs : List Leg) → legs_result legs ≢ Outcome.Success
    → asked Question.Leg n (leg_sought (Sought.Counting (legs_result legs))) legs ≢ []
unsuccessful_legs n legs = by (list_any (λ leg. has_failed leg.state) legs) (list_any (λ leg. was_cancelled leg.state) legs) refl refl
  where
    result : Bool → Bool → Outcome
    result failed cancelled = if failed then Outcome.Failure else (if cancelled then Outcome.Cancelled else Outcome.Success)

    by : (failed cancelled : Bool) → list_any (λ leg. has_failed leg.state) legs ≡ failed → list_any (λ leg. was_cancelled leg.state) legs ≡ cancelled
        → result failed cancelled ≢ Outcome.Success → asked Question.Leg n (leg_sought (Sought.Counting (result failed cancelled))) legs ≢ []
    by true cancelled f c some =
        some_asked Question.Leg n (leg_sought (Sought.Counting Outcome.Failure)) legs
        (same_any (leg_sought (Sought.Counting Outcome.Failure)) (λ leg. has_failed leg.state) legs (λ x. refl) ∙ f)
    by false true f c some =
        some_asked Question.Leg n (leg_sought (Sought.Counting Outcome.Cancelled)) legs
        (same_any (leg_sought (Sought.Counting Outcome.Cancelled)) (λ leg. was_cancelled leg.state) legs (λ x. refl) ∙ c)
    by false false f c some = absurd (some refl)

pub result_legs : LegsOfResultsAreNamed
result_legs a j at is opened ended some =
    subst (λ qs. qs ≢ []) (sym below) (unsuccessful_legs (first_leg notes) at.job.legs some)
  where
    notes : Option JobNotes
    notes = slice_get a.notes.jobs j

    below : causes a (Question.Job j) ≡ asked Question.Leg (first_leg notes) (leg_sought (Sought.Counting (legs_result at.job.legs))) at.job.legs
    below =
        ap (job_asked a j) is ∙ ap (job_state_asked at notes) opened
        ∙ ap (λ e. asked Question.Leg (first_leg notes) (leg_sought (if e then Sought.Counting (legs_result at.job.legs) else Sought.Unended)) at.job.legs) ended
