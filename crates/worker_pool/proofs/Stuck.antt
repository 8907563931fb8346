-- A board that stalls has a leg that waits for a group.
use Rattle.std.proofs.Common.{◌≡◌, inl, inr, ℕ, zero, suc, ◌+◌, ◌-◌, ◌<◌, ◌≤◌, ◌&&◌, ◌||◌, Bool, true, false, not, List, [], ◌∷◌, Option, Some, None, Result, Ok, Err, IfSome, map, slice_get, option_map, get_or, nat_le, nat_lt, count_by, ap, sym, refl, ◌∙◌, arith}
use Rattle.std.specs.List.{flat_map, list_all, list_any}
use Rattle.std.proofs.lemmas.Bool.{true≢false, leb-true}
use Rattle.std.proofs.lemmas.Bool.Decides.{nat_tests}
use Rattle.std.proofs.lemmas.List.Folds.{list_all-append}
use Rattle.std.proofs.lemmas.List.Sums.{sum_by-cons}
use Rattle.std.proofs.lemmas.Option.{slice_get-map, slice_get_within, slice_get-get_or}
use Rattle.status_table.specs.Words.{Board, Entrance, Entry, InPlay, IsPlan, Job, JobAt, JobPlan, JobState, Leg, LegAt, LegState, Plan, Run, RunAt, RunPlan, RunShape, RunState, SoundPlan, Standing, ValueFault, after, apart, board_legs, finished, first_of, greatest, holding, holds, holds_at, is_active, is_closed, is_ended, is_full, is_none_left, is_shut, is_under_way, is_waiting, job_has_ended, leg_entrance, leg_has_ended, leg_standing, leg_stands, moves, needs_have_ended, stalled, waiting}
use Rattle.board_settled.proofs.Numbers.{leg_spot}
use Rattle.worker_pool.specs.Stalls.{HasNoJobGroup, WaitsForAnotherRun}
use Rattle.board_decisions.proofs.Lists.{and-left, and-right, and-both, same_some, no_some}
use Rattle.status_table.proofs.Counts.{one, zip-left, all-weaker}
use Rattle.status_table.proofs.Found.{job_stands as job_found, leg_stands as leg_found, leg_item}
use Rattle.status_table.proofs.Lawfulness.{legal_lawful}
use Rattle.status_table.proofs.Legal.{after_fits}
use Rattle.status_table.proofs.Lists.{all-get, flat_map-twice}
use Rattle.status_table.proofs.Sound.{stands_after_needs}
use Rattle.worker_pool.proofs.Holding.{IsQuiet, has_name, run_waits_for, leg_waits_for}
use Rattle.worker_pool.proofs.Keeping.{Passes, AllStand, legal_stands}
use Rattle.worker_pool.proofs.NoMoves.{Idle, idle, going_or_waits, some_job_left, was_judged, has_asked}
use Rattle.worker_pool.proofs.Numbered.{job_spot, JobNumbered, LegNumbered, number_of_job_at, number_of_leg_at}

-- ---- lists

-- the first item that fails a test, after others that pass it
record FirstFails {A : Type 0} (t : A → Bool) (xs : List A) : Type 0 where
  place : ℕ
  item : A
  there : slice_get xs place ≡ Some item
  fails : t item ≡ false
  before : (i : ℕ) (x : A) → i < place → slice_get xs i ≡ Some x → t x ≡ true

first-fails : {A : Type 0} (t : A → Bool) (xs : List A) → list_all t xs ≡ false → FirstFails t xs
first-fails t [] h = absurd (true≢false h)
first-fails {A} t (x ∷ xs) h = by (t x) refl (first-fails t xs)
  where
    by : (c : Bool) → t x ≡ c → (list_all t xs ≡ false → FirstFails t xs) → FirstFails t (x ∷ xs)
    by false is later = record { place = 0; item = x; there = refl; fails = is; before = λ i y less at. absurd (omega (arith, less)) }
    by true is later =
        let rest = later (sym (ap (λ c. c && list_all t xs) is) ∙ h) in
        record { place = suc rest.place; item = rest.item; there = rest.there; fails = rest.fails; before = earlier rest }
      where
        earlier : (rest : FirstFails t xs) → (i : ℕ) (y : A) → i < suc rest.place → slice_get (x ∷ xs) i ≡ Some y → t y ≡ true
        earlier rest zero y less at = ap t (sym (same_some x y at)) ∙ is
        earlier rest (suc i) y less at = rest.before i y (omega (arith, less)) at

-- where a list made of others passes a test, each of them does
part-passes : {A B : Type 0} (t : B → Bool) (g : A → List B) (xs : List A) (i : ℕ) (x : A) → list_all t (flat_map g xs) ≡ true → slice_get xs i ≡ Some x → list_all t (g x) ≡ true
part-passes t g [] i x h at = absurd (no_some x at)
part-passes {A} t g (y ∷ ys) i x h at = by i at (λ k all there. part-passes t g ys k x all there)
  where
    both : list_all t (g y) && list_all t (flat_map g ys) ≡ true
    both = sym (list_all-append t (g y) (flat_map g ys)) ∙ h

    by : (k : ℕ) → slice_get (y ∷ ys) k ≡ Some x → ((n : ℕ) → list_all t (flat_map g ys) ≡ true → slice_get ys n ≡ Some x → list_all t (g x) ≡ true) → list_all t (g x) ≡ true
    by zero there later = ap (λ (z : A). list_all t (g z)) (sym (same_some y x there)) ∙ and-left (list_all t (g y)) (list_all t (flat_map g ys)) both
    by (suc k) there later = later k (and-right (list_all t (g y)) (list_all t (flat_map g ys)) both) there

none-any : {A : Type 0} (t : A → Bool) (xs : List A) → list_any t xs ≡ false → list_all (λ x. not (t x)) xs ≡ true
none-any t [] h = refl
none-any t (x ∷ xs) h = by (t x) h (none-any t xs)
  where
    by : (c : Bool) → c || list_any t xs ≡ false → (list_any t xs ≡ false → list_all (λ y. not (t y)) xs ≡ true) → not c && list_all (λ y. not (t y)) xs ≡ true
    by true k later = absurd (true≢false k)
    by false k later = later k

none-counted : {A : Type 0} (t : A → Bool) (xs : List A) → list_all (λ x. not (t x)) xs ≡ true → count_by t xs ≡ 0
none-counted t [] h = refl
none-counted t (x ∷ xs) h =
    let cons = sum_by-cons (λ z. one (t z)) x xs in
    let later = none-counted t xs (and-right (not (t x)) (list_all (λ y. not (t y)) xs) h) in
    let here : one (t x) ≡ 0 = none (t x) (and-left (not (t x)) (list_all (λ y. not (t y)) xs) h) in
    omega (arith, cons, later, here)
  where
    none : (c : Bool) → not c ≡ true → one c ≡ 0
    none true k = absurd (true≢false (sym k))
    none false k = refl

both-pass : {A : Type 0} (s u t : A → Bool) → ((x : A) → s x ≡ true → u x ≡ true → t x ≡ true) → (xs : List A) → list_all s xs ≡ true → list_all u xs ≡ true → list_all t xs ≡ true
both-pass s u t f [] h k = refl
both-pass s u t f (y ∷ ys) h k =
    and-both (t y) (list_all t ys) (f y (and-left (s y) (list_all s ys) h) (and-left (u y) (list_all u ys) k))
    (both-pass s u t f ys (and-right (s y) (list_all s ys) h) (and-right (u y) (list_all u ys) k))

neither : (c d e : Bool) → c || d || e ≡ false → (d ≡ false) × (e ≡ false)
neither true d e h = absurd (true≢false h)
neither false true e h = absurd (true≢false h)
neither false false e h = (refl, h)

-- ---- where no leg waits or has a worker

-- each leg is Fresh or Ended
abbrev NoneUnderWay : Board → Type 0
NoneUnderWay b = list_all (λ leg. not (is_under_way leg.state)) (board_legs b) ≡ true

not-under-way : (s : LegState) → not (is_active s) ≡ true → not (is_waiting s) ≡ true → not (is_under_way s) ≡ true
not-under-way LegState.Fresh h k = refl
not-under-way LegState.Waiting h k = k
not-under-way LegState.Admitted h k = h
not-under-way (LegState.Running worker in_call) h k = h
not-under-way (LegState.Ended result tolerated) h k = refl

fresh-else : (s : LegState) → not (is_under_way s) ≡ true → is_ended s ≡ false → s ≡ LegState.Fresh
fresh-else LegState.Fresh h k = refl
fresh-else LegState.Waiting h k = absurd (true≢false (sym h))
fresh-else LegState.Admitted h k = absurd (true≢false (sym h))
fresh-else (LegState.Running worker in_call) h k = absurd (true≢false (sym h))
fresh-else (LegState.Ended result tolerated) h k = absurd (true≢false k)

-- a job none of whose legs is under way has a free slot
has-room : (plan : JobPlan) (job : Job) → IfSome plan.max_parallel (λ most. (1 ≤ most) × (most ≤ greatest))
    → count_by (λ leg. is_under_way leg.state) job.legs ≡ 0 → is_full plan job ≡ false
has-room plan job some none = by plan.max_parallel refl some
  where
    by : (o : Option ℕ) → plan.max_parallel ≡ o → IfSome o (λ most. (1 ≤ most) × (most ≤ greatest)) → is_full plan job ≡ false
    by None is least = ap (λ m. is_full (record plan { max_parallel = m }) job) is
    by (Some most) is least =
        let one_at_least = least.0 in
        let low : nat_le most (count_by (λ leg. is_under_way leg.state) job.legs) ≡ false = grind (arith, nat_tests, none, one_at_least) in
        ap (λ m. is_full (record plan { max_parallel = m }) job) is ∙ low

-- Beside a Going run something is accepted, so there is none.
module _ (p : Plan) (b : Board) (in_play : InPlay p b) (sound : SoundPlan p) (none : Idle p b) (still : NoneUnderWay b)
    (r : ℕ) (run : Run) (in_board : slice_get b.runs r ≡ Some run) (going : run.state ≡ RunState.Going) where
  -- the first of its jobs that has not ended, and the first such leg of it
  left : FirstFails (job_has_ended run) run.jobs
  left =
      let plan = zip-left RunShape p.runs b.runs r run in_board in_play.shape in
      first-fails (job_has_ended run) run.jobs
      (some_job_left p b none r (record { board = b; plan = plan.0; run = run }) (rw (plan.1, in_board) refl) going)

  leg_left : FirstFails (leg_has_ended run left.item) left.item.legs
  leg_left = first-fails (leg_has_ended run left.item) left.item.legs left.fails

  undone : (is_shut left.item.state ≡ false) × (is_ended leg_left.item.state ≡ false)
  undone = neither (is_closed run.state) (is_shut left.item.state) (is_ended leg_left.item.state) leg_left.fails

  -- ---- the job was judged

  number : JobNumbered p b r left.place run left.item
  number = number_of_job_at p b r left.place run left.item in_play.shape in_board left.there

  abbrev at_job : JobAt
  at_job = record { board = b; place = job_spot r left.place; run_plan = number.run_plan; plan = number.plan; run = run; job = left.item }

  -- a job before it has ended
  has_ended : (i : ℕ) → i < left.place → holds_at (map (job_has_ended run) run.jobs) i ≡ true
  has_ended i less =
      let within = slice_get_within run.jobs left.place left.item left.there in
      let there = slice_get-get_or run.jobs i left.item (omega (arith, less, within)) in
      ap holds (slice_get-map (job_has_ended run) run.jobs i)
      ∙ ap (λ o. holds (option_map (job_has_ended run) o)) there
      ∙ left.before i (get_or run.jobs i left.item) less there

  needs_ended : needs_have_ended (first_of number.n at_job) run number.plan ≡ true
  needs_ended =
      all-weaker (λ need. nat_le (first_of number.n at_job) need && nat_lt need (first_of number.n at_job + left.place))
      (λ need. holds_at (map (job_has_ended run) run.jobs) (need - first_of number.n at_job))
      (λ need h. earlier need (first_of number.n at_job) h) number.plan.needs
      ((stands_after_needs p b number.n at_job in_play number.found).back left.place number.plan (job_found p b number.n at_job number.found).plan)
    where
      earlier : (need first : ℕ) → nat_le first need && nat_lt need (first + left.place) ≡ true → holds_at (map (job_has_ended run) run.jobs) (need - first) ≡ true
      earlier need first h =
          let low = leb-true first need (and-left (nat_le first need) (nat_lt need (first + left.place)) h) in
          let high = leb-true (suc need) (first + left.place) (and-right (nat_le first need) (nat_lt need (first + left.place)) h) in
          has_ended (need - first) (omega (arith, low, high))

  opened : left.item.state ≡ JobState.Open
  opened = by left.item.state refl
    where
      by : (s : JobState) → left.item.state ≡ s → left.item.state ≡ JobState.Open
      by JobState.Unjudged is = absurd (was_judged p b none number.n at_job number.found going needs_ended is)
      by JobState.Open is = is
      by (JobState.Shut result) is = absurd (true≢false (sym (ap is_shut is) ∙ undone.0))

  -- ---- its leg has asked

  leg_number : LegNumbered p b r left.place leg_left.place run left.item leg_left.item
  leg_number = number_of_leg_at p b r left.place leg_left.place run left.item leg_left.item in_play.shape in_board left.there leg_left.there

  abbrev at_leg : LegAt
  at_leg = record {
    board = b;
    place = leg_spot r left.place leg_left.place;
    run_plan = leg_number.run_plan;
    job_plan = leg_number.job_plan;
    run = run;
    job = left.item;
    leg = leg_left.item;
  }

  legs_still : list_all (λ (leg : Leg). not (is_under_way leg.state)) left.item.legs ≡ true
  legs_still =
      let by_runs = ap (list_all (λ (leg : Leg). not (is_under_way leg.state))) (sym (flat_map-twice (λ (x : Run). x.jobs) (λ (x : Job). x.legs) b.runs)) ∙ still in
      let of_run = part-passes (λ (leg : Leg). not (is_under_way leg.state)) (λ (x : Run). flat_map (λ (y : Job). y.legs) x.jobs) b.runs r run by_runs in_board in
      part-passes (λ (leg : Leg). not (is_under_way leg.state)) (λ (x : Job). x.legs) run.jobs left.place left.item of_run left.there

  fresh : leg_left.item.state ≡ LegState.Fresh
  fresh = fresh-else leg_left.item.state (all-get (λ (leg : Leg). not (is_under_way leg.state)) left.item.legs leg_left.place leg_left.item leg_left.there legs_still) undone.1

  free : is_full leg_number.job_plan left.item ≡ false
  free =
      has-room leg_number.job_plan left.item
      ((sound.runs r leg_number.run_plan leg_number.planned).jobs left.place leg_number.job_plan leg_number.job_planned).max_parallel
      (none-counted (λ (leg : Leg). is_under_way leg.state) left.item.legs legs_still)

  nothing_goes : ⊥
  nothing_goes = has_asked p b none leg_number.n at_leg leg_number.found going opened fresh free

-- ---- a board that stalls

is-waiting : (s : LegState) → not (is_waiting s) ≡ false → s ≡ LegState.Waiting
is-waiting LegState.Fresh h = absurd (true≢false h)
is-waiting LegState.Waiting h = refl
is-waiting LegState.Admitted h = absurd (true≢false h)
is-waiting (LegState.Running worker in_call) h = absurd (true≢false h)
is-waiting (LegState.Ended result tolerated) h = absurd (true≢false h)

not-true : (c : Bool) → not c ≡ true → c ≡ false
not-true true h = sym h
not-true false h = refl

stalled_waits : (p : Plan) (b : Board) → InPlay p b → SoundPlan p → AllStand has_name has_name b → stalled p b ≡ true → WaitsForAnotherRun p b
stalled_waits p b in_play sound named h = by (list_all (λ (leg : Leg). not (is_waiting leg.state)) (board_legs b)) refl
  where
    active : Bool
    active = list_any (λ (leg : Leg). is_active leg.state) (board_legs b)

    idle_and_quiet : is_none_left (moves p b) && not active ≡ true
    idle_and_quiet = and-right (not (finished b)) (is_none_left (moves p b) && not active) h

    quiet : IsQuiet b
    quiet = none-any (λ (leg : Leg). is_active leg.state) (board_legs b) (not-true active (and-right (is_none_left (moves p b)) (not active) idle_and_quiet))

    none : Idle p b
    none = idle p b (and-left (is_none_left (moves p b)) (not active) idle_and_quiet)

    undone : FirstFails (λ (run : Run). is_closed run.state) b.runs
    undone = first-fails (λ (run : Run). is_closed run.state) b.runs (not-true (finished b) (and-left (not (finished b)) (is_none_left (moves p b) && not active) h))

    at_run : (plan : RunPlan) → RunAt
    at_run plan = record { board = b; plan = plan; run = undone.item }

    by : (c : Bool) → list_all (λ (leg : Leg). not (is_waiting leg.state)) (board_legs b) ≡ c → WaitsForAnotherRun p b
    by false is =
        let some = first-fails (λ (leg : Leg). not (is_waiting leg.state)) (board_legs b) is in
        leg_waits_for p b some.place some.item in_play.laws quiet named.legs some.there (is-waiting some.item.state some.fails)
    by true is = absurd (elim (going_or_waits p b none undone.place (at_run plan.0) (rw (plan.1, undone.there) refl) undone.fails) as (λ _. ⊥) [
      | inl going ↦ nothing_goes p b in_play sound none still undone.place undone.item undone.there going
      | inr waits ↦
          let held = (run_waits_for b undone.place undone.item in_play.laws.one quiet named.runs undone.there waits).1 in
          nothing_goes p b in_play sound none still held.place held.run held.there held.going
    ])
      where
        plan : (q : RunPlan) × (slice_get p.runs undone.place ≡ Some q) × RunShape q undone.item
        plan = zip-left RunShape p.runs b.runs undone.place undone.item undone.there in_play.shape

        still : NoneUnderWay b
        still = both-pass (λ (leg : Leg). not (is_active leg.state)) (λ (leg : Leg). not (is_waiting leg.state)) (λ (leg : Leg). not (is_under_way leg.state))
            (λ leg. not-under-way leg.state) (board_legs b) quiet is

-- ---- legal lists

name-passes : Passes has_name
name-passes = record { none = refl; held = λ name. refl }

legal_named : (p : Plan) (es : List Entry) (b : Board) → after p es ≡ Some b → AllStand has_name has_name b
legal_named p es b is = legal_stands has_name has_name name-passes name-passes p (record { run = λ name. refl; leg = λ c l at g found asks. refl }) es b is

legal_in_play : (p : Plan) → IsPlan p → SoundPlan p → (es : List Entry) (b : Board) → after p es ≡ Some b → InPlay p b
legal_in_play p rules sound es b is =
    let fits = after_fits p es b is in
    record { rules = rules; shape = fits.shape; ends = fits.ends; laws = legal_lawful p sound es b is }

pub legal_waits : (p : Plan) → IsPlan p → SoundPlan p → (es : List Entry) (b : Board) → after p es ≡ Some b → stalled p b ≡ true → WaitsForAnotherRun p b
legal_waits p rules sound es b is h = stalled_waits p b (legal_in_play p rules sound es b is) sound (legal_named p es b is) h

-- ---- where no job has a group

-- a test that no member passes that waits
abbrev waits_not : Standing → Bool
waits_not apart = true
waits_not (holding name) = true
waits_not (waiting name) = false

no_entrance : (at : LegAt) → at.job_plan.group ≡ None → leg_entrance at ≡ Ok None
unfolding leg_entrance
no_entrance at h = rw h refl

-- whether there is a group to enter
abbrev enters : Result (Option Entrance) ValueFault → Bool
enters (Ok None) = false
enters (Ok (Some group)) = true
enters (Err f) = false

legal_unwaited : (p : Plan) → HasNoJobGroup p → (es : List Entry) (b : Board) → after p es ≡ Some b → AllStand has_name waits_not b
legal_unwaited p without es b is =
    legal_stands has_name waits_not name-passes (record { none = refl; held = λ name. refl }) p
    (record {
      run = λ name. refl;
      leg = λ c l at g found asks.
          let stands = leg_found p c l at found in
          let stays_out = no_entrance at (without at.place.run at.run_plan stands.in_plan at.place.job at.job_plan stands.job_plan) in
          absurd (true≢false (sym (ap enters asks) ∙ ap enters stays_out));
    }) es b is

pub legal_goes_on : (p : Plan) → IsPlan p → SoundPlan p → HasNoJobGroup p → (es : List Entry) (b : Board) → after p es ≡ Some b → stalled p b ≡ false
legal_goes_on p rules sound without es b is = by (stalled p b) refl
  where
    by : (c : Bool) → stalled p b ≡ c → c ≡ false
    by false h = refl
    by true h =
        let waits = legal_waits p rules sound es b is h in
        let there = leg_item p b waits.leg waits.at (leg_found p b waits.leg waits.at waits.found) in
        let passes = all-get (λ (leg : Leg). waits_not (leg_standing leg)) (board_legs b) waits.leg waits.at.leg there (legal_unwaited p without es b is).legs in
        absurd (true≢false (sym passes ∙ ap (λ s. waits_not (leg_stands s waits.at.leg.group)) waits.waits))
