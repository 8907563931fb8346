-- The cause that is named of a leg that is to stop makes it so.
use Rattle.std.proofs.Common.{◌≡◌, ℕ, zero, suc, ◌+◌, ◌-◌, ◌==◌, ◌&&◌, ◌||◌, Bool, true, false, not, List, [], ◌∷◌, Option, Some, None, nat_le, slice_get, count_by, cond, if◌then◌else◌, refl, sym, ap, ◌∙◌, arith}
use Rattle.std.specs.List.{list_any}
use Rattle.std.proofs.lemmas.Bool.{true≢false}
use Rattle.std.proofs.lemmas.Bool.Decides.{nat_tests}
use Rattle.status_table.specs.Words.{Board, EndOnce, Leg, LegAt, LegState, Plan, Status, first_place, has_failed, is_ended, is_stopping, is_true, job_condition, job_of, leg_at, stops_anyway, times_ended}
use Rattle.board_decisions.proofs.Lists.{and-left, and-right, no_some, same_some}
use Rattle.status_table.proofs.Counts.{first-none, first-some}
use Rattle.why_facts.specs.Stops.{failed_of, failed_there, first_failed, stop_by}
use Rattle.why_facts.specs.declared.fact.StopCause.{StopCause}
use Rattle.why_notes.proofs.Numbers.{board_is, leg_beside}
use Rattle.why_notes.specs.Laws.{CauseHolds, IsFirstToFail, StopsAreCaused}

-- ---- the first leg that failed

found : (first : ℕ) (legs : List Leg) (ends : List ℕ) (l : ℕ) → first_failed first legs ends ≡ Some l → IsFirstToFail first legs ends l
found first legs [] l h = absurd (no_some l h)
found first legs (k ∷ ends) l h = step (failed_of first legs k) refl h (found first legs ends l)
  where
    step : (c : Bool) → failed_of first legs k ≡ c → cond c (Some k) (first_failed first legs ends) ≡ Some l
        → (first_failed first legs ends ≡ Some l → IsFirstToFail first legs ends l) → IsFirstToFail first legs (k ∷ ends) l
    step true is e later =
        let same = same_some k l e in
        record { earlier = []; further = ends; split = ap (λ n. n ∷ ends) same; failed = ap (failed_of first legs) (sym same) ∙ is; none = tt }
    step false is e later =
        let others = later e in
        record { earlier = k ∷ others.earlier; further = others.further; split = ap (λ ns. k ∷ ns) others.split; failed = others.failed; none = (is, others.none) }

-- where a leg that failed is among the ends, one is found
some_found : (first : ℕ) (legs : List Leg) (ends : List ℕ) (i n : ℕ) → slice_get ends i ≡ Some n → failed_of first legs n ≡ true
    → first_failed first legs ends ≡ None → ⊥
some_found first legs [] i n at failed none = no_some n at
some_found first legs (k ∷ ends) zero n at failed none = here (failed_of first legs k) (ap (failed_of first legs) (same_some k n at) ∙ failed) none
  where
    here : (c : Bool) → c ≡ true → cond c (Some k) (first_failed first legs ends) ≡ None → ⊥
    here true is e = no_some k (sym e)
    here false is e = true≢false (sym is)
some_found first legs (k ∷ ends) (suc i) n at failed none = there (failed_of first legs k) none (some_found first legs ends i n at failed)
  where
    there : (c : Bool) → cond c (Some k) (first_failed first legs ends) ≡ None → (first_failed first legs ends ≡ None → ⊥) → ⊥
    there true e later = no_some k (sym e)
    there false e later = later e

-- ---- a leg of a job that failed

-- an item that passes, with its place
record Passing {A : Type 0} (t : A → Bool) (xs : List A) : Type 0 where
  place : ℕ
  item : A
  there : slice_get xs place ≡ Some item
  passes : t item ≡ true

passing : {A : Type 0} (t : A → Bool) (xs : List A) → list_any t xs ≡ true → Passing t xs
passing t [] h = absurd (true≢false (sym h))
passing {A} t (x ∷ xs) h = step (t x) refl h (passing t xs)
  where
    step : (c : Bool) → t x ≡ c → (c || list_any t xs) ≡ true → (list_any t xs ≡ true → Passing t xs) → Passing t (x ∷ xs)
    step true is e later = record { place = 0; item = x; there = refl; passes = is }
    step false is e later = let others = later e in record { place = suc others.place; item = others.item; there = others.there; passes = others.passes }

failed_ended : (s : LegState) → has_failed s ≡ true → is_ended s ≡ true
failed_ended LegState.Fresh h = absurd (true≢false (sym h))
failed_ended LegState.Waiting h = absurd (true≢false (sym h))
failed_ended LegState.Admitted h = absurd (true≢false (sym h))
failed_ended (LegState.Running worker in_call) h = absurd (true≢false (sym h))
failed_ended (LegState.Ended result tolerated) h = refl

-- a number that is counted once is in the list
is_there : (ends : List ℕ) (n : ℕ) → count_by (λ end. end == n) ends ≡ 1 → (i : ℕ) × (slice_get ends i ≡ Some n)
is_there ends n once = by (first_place 0 (λ end. end == n) ends) refl
  where
    by : (o : Option ℕ) → first_place 0 (λ end. end == n) ends ≡ o → (i : ℕ) × (slice_get ends i ≡ Some n)
    by None none = let zero_times = first-none (λ end. end == n) ends none in absurd (omega (arith, once, zero_times))
    by (Some i) at =
        let it = first-some (λ end. end == n) ends i at in
        let test = it.2 in
        let same : it.0 ≡ n = grind (arith, nat_tests, test) in
        (i, it.1 ∙ ap (λ m. Some m) same)

numbered_failed : (first : ℕ) (legs : List Leg) (k : ℕ) (leg : Leg) → slice_get legs k ≡ Some leg → has_failed leg.state ≡ true → failed_of first legs (first + k) ≡ true
numbered_failed first legs k leg there failed =
    let far : nat_le first (first + k) ≡ true = grind (arith, nat_tests) in
    let back : first + k - first ≡ k = omega arith in
    ap (λ c. c && failed_there (slice_get legs (first + k - first))) far
    ∙ ap (λ n. failed_there (slice_get legs n)) back ∙ ap failed_there there ∙ failed

module _ (p : Plan) (b : Board) (l : ℕ) (at : LegAt) (ends : EndOnce b) (is : leg_at p b l ≡ Some at) where
  abbrev first : ℕ
  first = l - at.place.leg

  failing : first_failed first at.job.legs at.board.ends ≡ None → Passing (λ leg. has_failed leg.state) at.job.legs → ⊥
  failing none x =
      let times : count_by (λ end. end == first + x.place) at.board.ends ≡ 1 =
      ap (λ (c : Board). count_by (λ end. end == first + x.place) c.ends) (board_is p b l at is) ∙ ends (first + x.place)
      ∙ ap times_ended (leg_beside p b l at is x.place x.item x.there) ∙ ap (λ c. if c then 1 else 0) (failed_ended x.item.state x.passes) in
      let among = is_there at.board.ends (first + x.place) times in
      some_found first at.job.legs at.board.ends among.0 (first + x.place) among.1 (numbered_failed first at.job.legs x.place x.item x.there x.passes) none

  -- where no leg of the job is found among the ends, none has failed
  none_failed : first_failed first at.job.legs at.board.ends ≡ None → list_any (λ leg. has_failed leg.state) at.job.legs ≡ false
  none_failed none = by (list_any (λ leg. has_failed leg.state) at.job.legs) refl
    where
      by : (c : Bool) → list_any (λ leg. has_failed leg.state) at.job.legs ≡ c → c ≡ false
      by true some = absurd (failing none (passing (λ leg. has_failed leg.state) at.job.legs some))
      by false some = refl

untrue : (c : Bool) → not c ≡ true → c ≡ false
untrue true h = absurd (true≢false (sym h))
untrue false h = refl

told_run : (l : ℕ) (at : LegAt) → is_stopping at ≡ true → stops_anyway at ≡ false → CauseHolds l at StopCause.RunTold
told_run l at h none =
    let lapsed : Bool = not (is_true (job_condition (job_of at) Status.Cancelled)) in
    let both : at.run.stop && lapsed ≡ true = ap (λ c. c || (at.run.stop && lapsed)) (sym none) ∙ h in
    (none, and-left at.run.stop lapsed both, untrue (is_true (job_condition (job_of at) Status.Cancelled)) (and-right at.run.stop lapsed both))

pub stops_are_caused : StopsAreCaused
stops_are_caused p b l at ends is h =
    by_cases at.leg.stop at.job_plan.fail_fast (first_failed (l - at.place.leg) at.job.legs at.board.ends) refl refl refl
  where
    by_cases : (stop fast : Bool) (failed : Option ℕ) → at.leg.stop ≡ stop → at.job_plan.fail_fast ≡ fast
        → first_failed (l - at.place.leg) at.job.legs at.board.ends ≡ failed → CauseHolds l at (stop_by stop fast failed)
    by_cases true fast failed is-stop is-fast is-failed = is-stop
    by_cases false true (Some k) is-stop is-fast is-failed = (is-stop, is-fast, found (l - at.place.leg) at.job.legs at.board.ends k is-failed)
    by_cases false true None is-stop is-fast is-failed =
        let none = none_failed p b l at ends is is-failed in
        told_run l at h (λ i. is-stop i || (is-fast i && none i))
    by_cases false false failed is-stop is-fast is-failed =
        told_run l at h (λ i. is-stop i || (is-fast i && list_any (λ leg. has_failed leg.state) at.job.legs))
