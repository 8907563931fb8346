-- A job that had no success on a board has none on a later one.
use Rattle.std.proofs.Common.{◌≡◌, ◌≢◌, ℕ, zero, suc, Bool, true, false, ◌&&◌, ◌||◌, List, [], ◌∷◌, Option, Some, slice_get, if◌then◌else◌, ap, sym, refl, ◌∙◌, arith, true≢false}
use Rattle.std.specs.List.{list_all, list_any, AllZip}
use Rattle.std.proofs.lemmas.Bool.{or_right}
use Rattle.std.proofs.lemmas.Option.{slice_get_within}
use Rattle.status_table.specs.Words.{Job, JobFits, JobPlan, JobState, JobStays, Leg, LegState, LegStays, Outcome, Run, RunState, has_failed, is_ended, is_fresh, is_going, is_open, is_shut, job_result, leg_stands_right, legs_result, result_by, was_cancelled}
use Rattle.why_causes.proofs.MetFirst.{get_within}
use Rattle.board_decisions.proofs.Lists.{same_some}
use Rattle.status_table.proofs.Lists.{all-get, zip-get, zip-length}

-- ---- a leg that failed or was cancelled

-- an item that passes
pub record Passes {T : Type 0} (test : T → Bool) (xs : List T) : Type 0 where
  pub place : ℕ
  pub item : T
  pub is : slice_get xs place ≡ Some item
  pub passes : test item ≡ true

pub some_passes : {T : Type 0} (test : T → Bool) (xs : List T) → list_any test xs ≡ true → Passes test xs
some_passes test [] h = absurd (true≢false (sym h))
some_passes {T} test (x ∷ xs) h = by (test x) refl h (some_passes test xs)
  where
    by : (b : Bool) → test x ≡ b → (b || list_any test xs) ≡ true → (list_any test xs ≡ true → Passes test xs) → Passes test (x ∷ xs)
    by true is k later = record { place = 0; item = x; is = refl; passes = is }
    by false is k later = let found = later k in record { place = suc found.place; item = found.item; is = found.is; passes = found.passes }

passes_some : {T : Type 0} (test : T → Bool) (xs : List T) (k : ℕ) (x : T) → slice_get xs k ≡ Some x → test x ≡ true → list_any test xs ≡ true
passes_some test [] k x is passes = cc
passes_some {T} test (y ∷ ys) zero x is passes = rw (ap test (same_some y x is) ∙ passes) refl
passes_some test (y ∷ ys) (suc k) x is passes = by (test y) (passes_some test ys k x is passes)
  where
    by : (b : Bool) → list_any test ys ≡ true → (b || list_any test ys) ≡ true
    by true h = refl
    by false h = h

spoils : LegState → Bool
spoils s = has_failed s || was_cancelled s

abbrev spoiled : Leg → Bool
spoiled leg = spoils leg.state

spoils_ended : (s : LegState) → spoils s ≡ true → is_ended s ≡ true
unfolding spoils
spoils_ended LegState.Fresh h = absurd (true≢false (sym h))
spoils_ended LegState.Waiting h = absurd (true≢false (sym h))
spoils_ended LegState.Admitted h = absurd (true≢false (sym h))
spoils_ended (LegState.Running worker in_call) h = absurd (true≢false (sym h))
spoils_ended (LegState.Ended result tolerated) h = refl

ended_fresh : (s : LegState) → is_ended s ≡ true → is_fresh s ≡ false
ended_fresh LegState.Fresh h = absurd (true≢false (sym h))
ended_fresh LegState.Waiting h = refl
ended_fresh LegState.Admitted h = refl
ended_fresh (LegState.Running worker in_call) h = refl
ended_fresh (LegState.Ended result tolerated) h = refl

-- legs without success have such a leg
spoiled_by : (legs : List Leg) → legs_result legs ≢ Outcome.Success → Passes spoiled legs
unfolding spoils
spoiled_by legs apart = by (list_any (λ leg. has_failed leg.state) legs) (list_any (λ leg. was_cancelled leg.state) legs) refl refl apart
  where
    by : (failed cancelled : Bool) → list_any (λ leg. has_failed leg.state) legs ≡ failed → list_any (λ leg. was_cancelled leg.state) legs ≡ cancelled
        → (if failed then Outcome.Failure else (if cancelled then Outcome.Cancelled else Outcome.Success)) ≢ Outcome.Success → Passes spoiled legs
    by true cancelled f c k = let x = some_passes (λ leg. has_failed leg.state) legs f in record { place = x.place; item = x.item; is = x.is; passes = rw x.passes refl }
    by false true f c k =
        let x = some_passes (λ leg. was_cancelled leg.state) legs c in
        record { place = x.place; item = x.item; is = x.is; passes = or_right (has_failed x.item.state) (was_cancelled x.item.state) x.passes }
    by false false f c k = absurd (k refl)

-- and where there is one there is no success
spoiled_result : (legs : List Leg) → Passes spoiled legs → legs_result legs ≢ Outcome.Success
unfolding spoils
spoiled_result legs x = by (list_any (λ leg. has_failed leg.state) legs) (list_any (λ leg. was_cancelled leg.state) legs) refl refl
  where
    or-cases : (a b f c : Bool) → (a || b) ≡ true → (a ≡ true → f ≡ true) → (b ≡ true → c ≡ true) → f ≡ false → c ≡ false → ⊥
    or-cases true b f c h k l none nor = true≢false (sym (k refl) ∙ none)
    or-cases false b f c h k l none nor = true≢false (sym (l h) ∙ nor)

    by : (failed cancelled : Bool) → list_any (λ leg. has_failed leg.state) legs ≡ failed → list_any (λ leg. was_cancelled leg.state) legs ≡ cancelled
        → (if failed then Outcome.Failure else (if cancelled then Outcome.Cancelled else Outcome.Success)) ≢ Outcome.Success
    by true cancelled f c = λ e. cc
    by false true f c = λ e. cc
    by false false f c = absurd (or-cases (has_failed x.item.state) (was_cancelled x.item.state) (list_any (λ leg. has_failed leg.state) legs)
        (list_any (λ leg. was_cancelled leg.state) legs) x.passes (λ h. passes_some (λ leg. has_failed leg.state) legs x.place x.item x.is h)
        (λ h. passes_some (λ leg. was_cancelled leg.state) legs x.place x.item x.is h) f c)

spoiled_stays : (old new : List Leg) → AllZip LegStays old new → Passes spoiled old → Passes spoiled new
spoiled_stays old new stays x =
    let less = slice_get_within old x.place x.item x.is in
    let size = zip-length LegStays old new stays in
    let there = get_within new x.place (omega (arith, less, size)) in
    let same = zip-get LegStays old new x.place x.item there.0 x.is there.1 stays (spoils_ended x.item.state x.passes) in
    record { place = x.place; item = there.0; is = there.1; passes = ap spoiled same ∙ x.passes }

-- Only the legs of a job that was opened end.
spoiled_open : (s : RunState) (g : Option (List ℕ)) (state : JobState) (legs : List Leg) → list_all (leg_stands_right s g state) legs ≡ true → Passes spoiled legs
    → is_open state ≡ true
spoiled_open s g state legs all x =
    by (is_fresh x.item.state) (ended_fresh x.item.state (spoils_ended x.item.state x.passes)) (is_open state) _ (all-get (leg_stands_right s g state) legs x.place x.item x.is all)
  where
    by : (fresh : Bool) → fresh ≡ false → (opened rest : Bool) → (fresh || (opened && rest)) ≡ true → opened ≡ true
    by true none opened rest h = absurd (true≢false none)
    by false none true rest h = refl
    by false none false rest h = absurd (true≢false (sym h))

-- ---- a job without success

open_is : (s : JobState) → is_open s ≡ true → s ≡ JobState.Open
open_is JobState.Unjudged h = absurd (true≢false (sym h))
open_is JobState.Open h = refl
open_is (JobState.Shut result) h = absurd (true≢false (sym h))

-- it has none later, and was judged then
pub record Stayed (run : Run) (job : Job) : Type 0 where
  pub unsuccessful : job_result run job ≢ Outcome.Success
  pub judged : job.state ≢ JobState.Unjudged

pub stays_unsuccessful : (a b : Run) (x y : Job) (p q : JobPlan) → is_going a.state ≡ true → JobFits a.state a.group p x → JobFits b.state b.group q y → JobStays a b x y
    → job_result a x ≢ Outcome.Success → Stayed b y
stays_unsuccessful a b x y p q going old new stays apart = by x.state refl
  where
    -- by its legs
    by_legs : legs_result x.legs ≢ Outcome.Success → Stayed b y
    by_legs missed =
        let later = spoiled_stays x.legs y.legs stays.legs (spoiled_by x.legs missed) in
        let opened = open_is y.state (spoiled_open b.state b.group y.state y.legs new.legs later) in
        record {
          unsuccessful = λ e. spoiled_result y.legs later (sym (ap (λ s. result_by b.state s y.legs) opened) ∙ e);
          judged = λ e. open_unjudged (sym opened ∙ e);
        }
      where
        open_unjudged : JobState.Open ≡ JobState.Unjudged → ⊥
        open_unjudged e = cc

    unjudged : (s : RunState) → is_going s ≡ true → result_by s JobState.Unjudged x.legs ≡ legs_result x.legs
    unjudged RunState.New h = absurd (true≢false (sym h))
    unjudged RunState.Waiting h = absurd (true≢false (sym h))
    unjudged RunState.Going h = refl
    unjudged (RunState.Closed result) h = absurd (true≢false (sym h))

    by : (s : JobState) → x.state ≡ s → Stayed b y
    by JobState.Unjudged is = by_legs (λ e. apart (ap (λ s. result_by a.state s x.legs) is ∙ unjudged a.state going ∙ e))
    by JobState.Open is = by_legs (λ e. apart (ap (λ s. result_by a.state s x.legs) is ∙ e))
    by (JobState.Shut result) is =
        let same = stays.shut (ap is_shut is) in
        let state = ap (λ (job : Job). job.state) same ∙ is in
        record {
          unsuccessful = λ e. apart (ap (λ s. result_by a.state s x.legs) is ∙ sym (ap (λ s. result_by b.state s y.legs) state) ∙ e);
          judged = λ e. shut_unjudged (sym state ∙ e);
        }
      where
        shut_unjudged : JobState.Shut result ≡ JobState.Unjudged → ⊥
        shut_unjudged e = cc
