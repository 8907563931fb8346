-- A clerk's events that are refused to all jobs or legs of a run.
use Rattle.std.proofs.Common.{◌≡◌, ℕ, ◌+◌, ◌<◌, ◌≤◌, ◌==◌, ◌&&◌, ◌||◌, Bool, true, false, not, List, Option, Some, None, length, slice_get, count_by, sum_by, nat_lt, ap, sym, refl, ◌∙◌, arith}
use Rattle.flat_board.specs.Words.{Board, Event, Job, JobAt, JobPlace, JobState, Leg, LegAt, LegPlace, LegState, MoveKind, Outcome, Plan, Row, Run, RunState, accepts, ask_found, changed, drop_found, event_of, has_failed, is_accepted, is_all_judged, is_ended, is_fresh, is_going, is_none_stopping, is_open, is_run_idle, is_stopping, is_under_way as takes_slot, is_unjudged, is_untaken, job_at, job_place, judge_found, judge_job, judgement_by, leg_at, leg_place, legs_of_jobs, list_any, may_ask, may_drop, run_legs, run_tally, standing_of, stops_anyway, tally_of, told_of}
use Rattle.std.proofs.lemmas.Bool.{true≢false, false_from_ne_true}
use Rattle.std.proofs.lemmas.Bool.Decides.{nat_tests}
use Rattle.std.proofs.lemmas.List.Sums.{get_or-le-sum_by, sum_by-le-sum_by}
use Rattle.std.proofs.lemmas.Option.{get_or_from_slice_get, slice_get_within}
use Rattle.board_decisions.proofs.Lists.{and-both, and-left, and-right, same_some}
use Rattle.flat_board.proofs.RunNumbers.{job_further, leg_further}
use Rattle.board_counters.proofs.Lists.{any_counted}
use Rattle.status_table.proofs.Counts.{counted, one, sum-changed}
use Rattle.status_table.proofs.Found.{LegStands, job_stands, leg_stands}

-- ---- what the tally of a job says of each of its legs

at-most : (state : LegState) → one (takes_slot state) ≤ one (not (is_ended state))
at-most LegState.Fresh = omega arith
at-most state = omega arith

less : (state : LegState) → is_fresh state ≡ true → one (takes_slot state) < one (not (is_ended state))
less LegState.Fresh fresh = omega arith
less state fresh = absurd (true≢false (sym fresh))

-- fewer take a slot than are not Ended, where one is Fresh: if that ended, there would be no more of them
fresh-left : (legs : List Leg) (i : ℕ) (leg : Leg) → slice_get legs i ≡ Some leg → is_fresh leg.state ≡ true
    → count_by (λ (x : Leg). takes_slot x.state) legs < count_by (λ (x : Leg). not (is_ended x.state)) legs
fresh-left legs i leg at fresh =
    let end : Leg → Leg = λ x. record x { state = LegState.Ended Outcome.Success false } in
    let slots = sum-changed (λ (x : Leg). one (takes_slot x.state)) legs i end leg at in
    let left = sum-changed (λ (x : Leg). one (not (is_ended x.state))) legs i end leg at in
    let most = sum_by-le-sum_by (λ (x : Leg). one (takes_slot x.state)) (λ (x : Leg). one (not (is_ended x.state))) (changed legs i end) (λ x. at-most x.state) in
    let here = less leg.state fresh in
    omega (arith, slots, left, most, here)

untaken-unended : (state : LegState) → is_untaken state ≡ true → not (is_ended state) ≡ true
untaken-unended (LegState.Ended result tolerated) h = h
untaken-unended state h = refl

-- ---- counts

-- nothing is in any of several lists where their sum is 0
none-in : {A : Type 0} (w : A → ℕ) (xs : List A) (i : ℕ) (x : A) → slice_get xs i ≡ Some x → sum_by w xs ≡ 0 → w x ≡ 0
none-in w xs i x at none =
    let most = get_or-le-sum_by w xs i x (slice_get_within xs i x at) in
    let here = ap w (get_or_from_slice_get xs i x x at) in
    omega (arith, most, here, none)

-- and none is counted where the count is 0
none-counted : {A : Type 0} (t : A → Bool) (xs : List A) (i : ℕ) (x : A) → slice_get xs i ≡ Some x → (count_by t xs == 0) ≡ true → t x ≡ false
none-counted t xs i x at none = false_from_ne_true (t x) (λ is.
    let some = counted t xs i x at is in
    let zero_is : count_by t xs ≡ 0 = grind (arith, nat_tests, none) in
    omega (arith, some, zero_is))

-- one of two that do not both fail
else-holds : (a b : Bool) → (not a || b) ≡ true → a ≡ true → b ≡ true
else-holds a b h a_is = ap (λ c. not c || b) (sym a_is) ∙ h

-- neither one nor both of two others hold
neither : (a b c : Bool) → a ≡ false → b ≡ false → (a || (b && c)) ≡ false
neither a b c a_is b_is = λ i. a_is i || (b_is i && c)

-- a leg whose run is Going and whose job is Open
record Ready (at : LegAt) (own : Bool) : Type 0 where
  going : is_going at.run.state ≡ true
  opened : is_open at.job.state ≡ true
  own_is : own ≡ true

ready : (at : LegAt) (own : Bool) → is_going at.run.state && is_open at.job.state && own ≡ true → Ready at own
ready at own may =
    let way = and-left (is_going at.run.state && is_open at.job.state) own may in
    record {
      going = and-left (is_going at.run.state) (is_open at.job.state) way;
      opened = and-right (is_going at.run.state) (is_open at.job.state) way;
      own_is = and-right (is_going at.run.state && is_open at.job.state) own may;
    }

-- ---- a job of a run no job of which may be judged

judge-refused : (b : Board) (n : ℕ) (at : JobAt) → slice_get at.run.jobs at.place.job ≡ Some at.job → is_all_judged at.run ≡ true → is_accepted (judge_found b n (Some at)) ≡ false
judge-refused b n at there judged = by at.run.state at.job.state refl refl
  where
    unjudged-none : is_going at.run.state ≡ true → is_unjudged at.job.state ≡ false
    unjudged-none going = none-counted (λ (job : Job). (standing_of job).is_unjudged) at.run.jobs at.place.job at.job there
        (else-holds (is_going at.run.state) ((run_tally at.run).unjudged == 0) judged going)

    by : (r : RunState) (j : JobState) → at.run.state ≡ r → at.job.state ≡ j → is_accepted (judge_job b at.place (judgement_by n at r j)) ≡ false
    by RunState.Going JobState.Unjudged r j = absurd (true≢false (sym (ap is_unjudged j) ∙ unjudged-none (ap is_going r)))
    by run job r j = refl

-- the jobs of such a run, from its first on
pub idle_jobs : (p : Plan) (b : Board) (n : ℕ) (at : JobPlace) (run : Run) → job_place b n ≡ Some at → slice_get b.runs at.run ≡ Some run → at.job ≡ 0 → is_all_judged run ≡ true
    → (i : ℕ) → i < length run.jobs → accepts p b (Event.Judge (n + i)) ≡ false
idle_jobs p b n at run is there start judged i within = by (job_at p b (n + i)) refl
  where
    by : (o : Option JobAt) → job_at p b (n + i) ≡ o → is_accepted (judge_found b (n + i) o) ≡ false
    by None found = refl
    by (Some other) found =
        let stands = job_stands p b (n + i) other found in
        let further = job_further b n i at run is there (omega (arith, start, within)) in
        let place = ap (λ (x : JobPlace). x.run) (same_some _ other.place (sym further ∙ stands.place)) in
        let same : run ≡ other.run = same_some run other.run (sym there ∙ ap (slice_get b.runs) place ∙ stands.in_board) in
        judge-refused b (n + i) other stands.job (ap is_all_judged (sym same) ∙ judged)

-- ---- a leg of a run to none of whose legs anything may happen

ask-refused : (b : Board) (l : ℕ) (at : LegAt) → slice_get at.run.jobs at.place.job ≡ Some at.job → slice_get at.job.legs at.place.leg ≡ Some at.leg → is_run_idle MoveKind.Ask at.run ≡ true
    → is_accepted (ask_found b l (Some at)) ≡ false
ask-refused b l at in_run in_job idle = by (may_ask at) refl
  where
    by : (c : Bool) → may_ask at ≡ c → is_accepted (ask_found b l (Some at)) ≡ false
    by false may = rw may refl
    by true may =
        let is = ready at (is_fresh at.leg.state) may in
        let few = fresh-left at.job.legs at.place.leg at.leg in_job is.own_is in
        let left : nat_lt (tally_of at.job).used (tally_of at.job).pending ≡ true = grind (arith, nat_tests, few) in
        let none = none-counted (λ (job : Job). (standing_of job).may_ask) at.run.jobs at.place.job at.job in_run
        (else-holds (is_going at.run.state) ((run_tally at.run).asking == 0) idle is.going) in
        absurd (true≢false (sym (and-both (is_open at.job.state) (nat_lt (tally_of at.job).used (tally_of at.job).pending) is.opened left) ∙ none))

-- whether a leg stops whatever its job's condition, of a job none of whose legs is told to, and none has failed
anyway-false : (at : LegAt) → at.leg.stop ≡ false → list_any (λ leg. has_failed leg.state) at.job.legs ≡ false → stops_anyway at ≡ false
anyway-false at stop failed = ap (λ c. c || (at.job_plan.fail_fast && list_any (λ leg. has_failed leg.state) at.job.legs)) stop ∙ ap (λ c. at.job_plan.fail_fast && c) failed ∙ and-no at.job_plan.fail_fast
  where
    and-no : (c : Bool) → c && false ≡ false
    and-no true = refl
    and-no false = refl

drop-refused : (b : Board) (l : ℕ) (at : LegAt) → slice_get at.run.jobs at.place.job ≡ Some at.job → slice_get at.job.legs at.place.leg ≡ Some at.leg → is_run_idle MoveKind.Drop at.run ≡ true
    → is_accepted (drop_found b l (Some at)) ≡ false
drop-refused b l at in_run in_job idle = by (may_drop at) refl
  where
    told-none : (run_legs at.run).told ≡ 0 → at.leg.stop ≡ false
    told-none none =
        let of_job = none-in told_of at.run.jobs at.place.job at.job in_run none in
        let zero_is : (told_of at.job == 0) ≡ true = grind (arith, nat_tests, of_job) in
        none-counted (λ (leg : Leg). leg.stop) at.job.legs at.place.leg at.leg in_job zero_is

    failed-none : is_open at.job.state ≡ true → is_untaken at.leg.state ≡ true → ((run_tally at.run).dropping == 0) ≡ true → list_any (λ (leg : Leg). has_failed leg.state) at.job.legs ≡ false
    failed-none open_is untaken dropping = false_from_ne_true (list_any (λ (leg : Leg). has_failed leg.state) at.job.legs) (λ is.
        let some = counted (λ (leg : Leg). not (is_ended leg.state)) at.job.legs at.place.leg at.leg in_job (untaken-unended at.leg.state untaken) in
        let left : nat_lt 0 (tally_of at.job).pending ≡ true = grind (arith, nat_tests, some) in
        let failed : nat_lt 0 (tally_of at.job).failed ≡ true = sym (any_counted (λ (leg : Leg). has_failed leg.state) at.job.legs) ∙ is in
        let none = none-counted (λ (job : Job). (standing_of job).may_drop) at.run.jobs at.place.job at.job in_run dropping in
        let both = and-both (nat_lt 0 (tally_of at.job).failed) (nat_lt 0 (tally_of at.job).pending) failed left in
        true≢false (sym (and-both (is_open at.job.state) (nat_lt 0 (tally_of at.job).failed && nat_lt 0 (tally_of at.job).pending) open_is both) ∙ none))

    by : (c : Bool) → may_drop at ≡ c → is_accepted (drop_found b l (Some at)) ≡ false
    by false may = rw may refl
    by true may =
        let is = ready at (is_untaken at.leg.state) may in
        let none = else-holds (is_going at.run.state) (is_none_stopping at.run) idle is.going in
        let rest = and-right (not at.run.stop) (((run_legs at.run).told == 0) && ((run_tally at.run).dropping == 0)) none in
        let untold_is = and-left ((run_legs at.run).told == 0) ((run_tally at.run).dropping == 0) rest in
        let untold : (run_legs at.run).told ≡ 0 = grind (arith, nat_tests, untold_is) in
        let dropping = and-right ((run_legs at.run).told == 0) ((run_tally at.run).dropping == 0) rest in
        let stop = not-false at.run.stop (and-left (not at.run.stop) (((run_legs at.run).told == 0) && ((run_tally at.run).dropping == 0)) none) in
        let anyway = anyway-false at (told-none untold) (failed-none is.opened is.own_is dropping) in
        let stays : is_stopping at ≡ false = neither (stops_anyway at) at.run.stop _ anyway stop in
        rw (may, stays) refl
      where
        not-false : (c : Bool) → not c ≡ true → c ≡ false
        not-false false h = refl
        not-false true h = absurd (true≢false (sym h))

-- ---- the legs of one run

module _ (p : Plan) (b : Board) (n i : ℕ) (at : LegPlace) (run : Run) (is : leg_place b n ≡ Some at) (there : slice_get b.runs at.run ≡ Some run) (job : at.job ≡ 0) (leg : at.leg ≡ 0)
    (within : i < legs_of_jobs run.jobs) where
  same-run : (other : LegAt) → leg_at p b (n + i) ≡ Some other → run ≡ other.run
  same-run other found =
      let stands = leg_stands p b (n + i) other found in
      let place = leg_further b n i at other.place run is job leg there within stands.place in
      same_some run other.run (sym there ∙ ap (slice_get b.runs) place ∙ stands.in_board)

  -- what is refused to each leg of the run is refused to the one of this number
  found-refused : (row : Option LegAt → Row) → is_accepted (row None) ≡ false
      → ((other : LegAt) → LegStands p b (n + i) other → run ≡ other.run → is_accepted (row (Some other)) ≡ false) → is_accepted (row (leg_at p b (n + i))) ≡ false
  found-refused row none one = by (leg_at p b (n + i)) refl
    where
      by : (o : Option LegAt) → leg_at p b (n + i) ≡ o → is_accepted (row o) ≡ false
      by None found = none
      by (Some other) found = one other (leg_stands p b (n + i) other found) (same-run other found)

  -- the events of a kind of all legs of a run, from its first on
  pub idle_run : (k : MoveKind) → is_run_idle k run ≡ true → accepts p b (event_of k (n + i)) ≡ false
  idle_run MoveKind.Drop idle = found-refused (drop_found b (n + i)) refl (λ other stands same.
      drop-refused b (n + i) other stands.job stands.leg (ap (is_run_idle MoveKind.Drop) (sym same) ∙ idle))
  idle_run MoveKind.Ask idle = found-refused (ask_found b (n + i)) refl (λ other stands same.
      ask-refused b (n + i) other stands.job stands.leg (ap (is_run_idle MoveKind.Ask) (sym same) ∙ idle))
  idle_run k idle = absurd (true≢false (sym idle))
