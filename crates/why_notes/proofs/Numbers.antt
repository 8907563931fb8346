-- The numbers of the legs of a job follow each other: the first is how many legs the jobs before have.
use Rattle.std.proofs.Common.{◌≡◌, ℕ, zero, suc, ◌+◌, ◌-◌, ◌<◌, ◌≤◌, Bool, true, false, List, [], ◌∷◌, ◌++◌, Option, Some, None, Result, Ok, Err, length, slice_get, nat_lt, if◌then◌else◌, ap, subst, sym, refl, ◌∙◌, arith}
use Rattle.std.proofs.lemmas.Bool.Decides.{nat_tests}
use Rattle.std.proofs.lemmas.Option.{slice_get_within}
use Rattle.status_table.specs.Words.{Board, Job, JobPlace, Leg, LegAt, LegPlace, Plan, Run, board_jobs, board_legs, else_from, job_place, job_place_from, job_placed, job_there, leg_at, leg_in_jobs, leg_place, leg_place_from, leg_there, ◌>>=◌}
use Rattle.board_decisions.proofs.Lists.{get-left, get-right, no_some, same_some}
use Rattle.status_table.proofs.Found.{leg_stands}
use Rattle.status_table.proofs.Lists.{bind-some}
use Rattle.status_table.proofs.Numbers.{jobs_are_numbered, jobs_of, legs_are_numbered}
use Rattle.board_decisions.specs.Place.{JobAt}

-- how many legs the first of some jobs have
abbrev pub before : ℕ → List Job → ℕ
before zero jobs = 0
before (suc n) [] = 0
before (suc n) (job ∷ jobs) = length job.legs + before n jobs

before_left : (n : ℕ) (xs ys : List Job) → n ≤ length xs → before n (xs ++ ys) ≡ before n xs
before_left zero xs ys h = refl
before_left (suc n) [] ys h = absurd (omega (arith, h))
before_left (suc n) (x ∷ xs) ys h = ap (λ m. length x.legs + m) (before_left n xs ys (omega (arith, h)))

before_right : (n : ℕ) (xs ys : List Job) → before (length xs + n) (xs ++ ys) ≡ before (length xs) xs + before n ys
before_right n [] ys =
    let none : 0 + n ≡ n = omega arith in
    let all : before n ys ≡ 0 + before n ys = omega arith in
    ap (λ m. before m ys) none ∙ all
before_right n (x ∷ xs) ys =
    let next : length (x ∷ xs) + n ≡ suc (length xs + n) = omega arith in
    let apart : length x.legs + (before (length xs) xs + before n ys) ≡ length x.legs + before (length xs) xs + before n ys = omega arith in
    ap (λ m. before m (x ∷ (xs ++ ys))) next ∙ ap (λ m. length x.legs + m) (before_right n xs ys) ∙ apart

-- ---- each leg is found by its number

abbrev pub job_spot : ℕ → ℕ → JobPlace
job_spot r j = record { run = r; job = j }

abbrev pub leg_spot : ℕ → ℕ → ℕ → LegPlace
leg_spot r j k = record { run = r; job = j; leg = k }

past : (n m : ℕ) → nat_lt (n + m) n ≡ false
past n m = grind (arith, nat_tests)

rest : (n m : ℕ) → n + m - n ≡ m
rest n m = omega arith

in_jobs : (r k : ℕ) (jobs : List Job) (j l : ℕ) (job : Job) → slice_get jobs j ≡ Some job → l < length job.legs
    → leg_in_jobs r k jobs (before j jobs + l) ≡ Ok (leg_spot r (k + j) l)
in_jobs r k [] j l job at within = absurd (no_some job at)
in_jobs r k (x ∷ xs) zero l job at within =
    let less : l < length x.legs = subst (λ (y : Job). l < length y.legs) (sym (same_some x job at)) within in
    let here : nat_lt l (length x.legs) ≡ true = grind (arith, nat_tests, less) in
    let first : 0 + l ≡ l = omega arith in
    let none : k ≡ k + 0 = omega arith in
    ap (leg_in_jobs r k (x ∷ xs)) first
    ∙ ap (λ c. if c then Ok (leg_spot r k l) else leg_in_jobs r (suc k) xs (l - length x.legs)) here
    ∙ ap (λ i. Ok (leg_spot r i l)) none
in_jobs r k (x ∷ xs) (suc j) l job at within =
    let apart : length x.legs + before j xs + l ≡ length x.legs + (before j xs + l) = omega arith in
    let more : suc k + j ≡ k + suc j = omega arith in
    ap (leg_in_jobs r k (x ∷ xs)) apart
    ∙ ap (λ c. if c then Ok (leg_spot r k (length x.legs + (before j xs + l))) else leg_in_jobs r (suc k) xs (length x.legs + (before j xs + l) - length x.legs))
    (past (length x.legs) (before j xs + l))
    ∙ ap (leg_in_jobs r (suc k) xs) (rest (length x.legs) (before j xs + l))
    ∙ in_jobs r (suc k) xs j l job at within
    ∙ ap (λ i. Ok (leg_spot r i l)) more

-- what is left of a number beyond all legs of a run
beyond : (r k : ℕ) (jobs : List Job) (m : ℕ) → leg_in_jobs r k jobs (before (length jobs) jobs + m) ≡ Err m
beyond r k [] m = let none : 0 + m ≡ m = omega arith in ap (λ n. Err n) none
beyond r k (x ∷ xs) m =
    let apart : length x.legs + before (length xs) xs + m ≡ length x.legs + (before (length xs) xs + m) = omega arith in
    ap (leg_in_jobs r k (x ∷ xs)) apart
    ∙ ap (λ c. if c then Ok (leg_spot r k (length x.legs + (before (length xs) xs + m))) else leg_in_jobs r (suc k) xs (length x.legs + (before (length xs) xs + m) - length x.legs))
    (past (length x.legs) (before (length xs) xs + m))
    ∙ ap (leg_in_jobs r (suc k) xs) (rest (length x.legs) (before (length xs) xs + m))
    ∙ beyond r (suc k) xs m

in_runs : (k : ℕ) (runs : List Run) (j l : ℕ) (place : JobPlace) (job : Job) → job_place_from k runs j ≡ Some place → slice_get (jobs_of runs) j ≡ Some job
    → l < length job.legs → leg_place_from k runs (before j (jobs_of runs) + l) ≡ Some (leg_spot place.run place.job l)
in_runs k [] j l place job is at within = absurd (no_some place is)
in_runs k (x ∷ xs) j l place job is at within = step (λ n found there. in_runs (suc k) xs n l place job found there within) (nat_lt j (length x.jobs)) refl is
  where
    others : List Job
    others = jobs_of xs

    step : ((n : ℕ) → job_place_from (suc k) xs n ≡ Some place → slice_get (jobs_of xs) n ≡ Some job
        → leg_place_from (suc k) xs (before n (jobs_of xs) + l) ≡ Some (leg_spot place.run place.job l))
        → (c : Bool) → nat_lt j (length x.jobs) ≡ c → (if c then Some (job_spot k j) else job_place_from (suc k) xs (j - length x.jobs)) ≡ Some place
        → leg_place_from k (x ∷ xs) (before j (jobs_of (x ∷ xs)) + l) ≡ Some (leg_spot place.run place.job l)
    step later true less found =
        let lt : j < length x.jobs = grind (arith, less) in
        let le : j ≤ length x.jobs = omega (arith, lt) in
        let none : 0 + j ≡ j = omega arith in
        ap (λ n. leg_place_from k (x ∷ xs) (n + l)) (before_left j x.jobs (jobs_of xs) le)
        ∙ ap (λ o. else_from o (λ left. leg_place_from (suc k) xs left)) (in_jobs k 0 x.jobs j l job (sym (get-left x.jobs (jobs_of xs) j lt) ∙ at) within)
        ∙ ap (λ i. Some (leg_spot k i l)) none
        ∙ ap (λ (p : JobPlace). Some (leg_spot p.run p.job l)) (same_some (job_spot k j) place found)
    step later false beyond_it found =
        let le : length x.jobs ≤ j = grind (arith, beyond_it) in
        let number : j ≡ length x.jobs + (j - length x.jobs) = omega (arith, le) in
        let apart : before (length x.jobs) x.jobs + before (j - length x.jobs) (jobs_of xs) + l
        ≡ before (length x.jobs) x.jobs + (before (j - length x.jobs) (jobs_of xs) + l) = omega arith in
        ap (λ n. leg_place_from k (x ∷ xs) (before n (x.jobs ++ jobs_of xs) + l)) number
        ∙ ap (λ n. leg_place_from k (x ∷ xs) (n + l)) (before_right (j - length x.jobs) x.jobs (jobs_of xs))
        ∙ ap (leg_place_from k (x ∷ xs)) apart
        ∙ ap (λ o. else_from o (λ left. leg_place_from (suc k) xs left)) (beyond k 0 x.jobs (before (j - length x.jobs) (jobs_of xs) + l))
        ∙ later (j - length x.jobs) found (sym (get-right x.jobs (jobs_of xs) j le) ∙ at)

-- the place of a leg of the job with a number
pub numbered : (b : Board) (j l : ℕ) (place : JobPlace) (job : Job) → job_place b j ≡ Some place → slice_get (board_jobs b) j ≡ Some job → l < length job.legs
    → leg_place b (before j (board_jobs b) + l) ≡ Some (leg_spot place.run place.job l)
numbered b j l place job is at within = in_runs 0 b.runs j l place job is at within

-- ---- the number of a leg that is found

InJobs : ℕ → ℕ → List Job → ℕ → Result LegPlace ℕ → Type 0
InJobs r k jobs n (Ok at) = (j : ℕ) × (at.run ≡ r) × (at.job ≡ k + j) × (j < length jobs) × (n ≡ before j jobs + at.leg)
InJobs r k jobs n (Err m) = n ≡ before (length jobs) jobs + m

later_in_jobs : (r k : ℕ) (x : Job) (xs : List Job) (n : ℕ) (found : Result LegPlace ℕ) → length x.legs ≤ n
    → InJobs r (suc k) xs (n - length x.legs) found → InJobs r k (x ∷ xs) n found
unfolding InJobs
later_in_jobs r k x xs n (Ok at) le h = (suc h.0, h.1, omega (arith, h.2), omega (arith, h.3), omega (arith, h.4, le))
later_in_jobs r k x xs n (Err m) le h = omega (arith, h, le)

jobs_found : (r k : ℕ) (jobs : List Job) (n : ℕ) → InJobs r k jobs n (leg_in_jobs r k jobs n)
unfolding InJobs
jobs_found r k [] n = omega arith
jobs_found r k (x ∷ xs) n = step (jobs_found r (suc k) xs (n - length x.legs)) (nat_lt n (length x.legs)) refl
  where
    step : InJobs r (suc k) xs (n - length x.legs) (leg_in_jobs r (suc k) xs (n - length x.legs)) → (c : Bool) → nat_lt n (length x.legs) ≡ c
        → InJobs r k (x ∷ xs) n (if c then Ok (leg_spot r k n) else leg_in_jobs r (suc k) xs (n - length x.legs))
    step later true is = (0, refl, omega arith, omega arith, omega arith)
    step later false is =
        let le : length x.legs ≤ n = grind (arith, is) in
        later_in_jobs r k x xs n (leg_in_jobs r (suc k) xs (n - length x.legs)) le later

InRuns : ℕ → List Run → ℕ → Option LegPlace → Type 0
InRuns k runs n (Some at) = (j : ℕ) × (job_place_from k runs j ≡ Some (job_spot at.run at.job)) × (n ≡ before j (jobs_of runs) + at.leg)
InRuns k runs n None = Unit {0}

later_in_runs : (k : ℕ) (x : Run) (xs : List Run) (n m : ℕ) (found : Option LegPlace) → n ≡ before (length x.jobs) x.jobs + m
    → InRuns (suc k) xs m found → InRuns k (x ∷ xs) n found
unfolding InRuns
later_in_runs k x xs n m None is h = tt
later_in_runs k x xs n m (Some at) is h =
    let number = h.2 in
    let split = before_right h.0 x.jobs (jobs_of xs) in
    let sum : n ≡ before (length x.jobs) x.jobs + before h.0 (jobs_of xs) + at.leg = omega (arith, is, number) in (
      length x.jobs + h.0,
      ap (λ c. if c then Some (job_spot k (length x.jobs + h.0)) else job_place_from (suc k) xs (length x.jobs + h.0 - length x.jobs)) (past (length x.jobs) h.0)
          ∙ ap (job_place_from (suc k) xs) (rest (length x.jobs) h.0)
          ∙ h.1,
      sum ∙ ap (λ s. s + at.leg) (sym split),
    )

runs_found : (k : ℕ) (runs : List Run) (n : ℕ) → InRuns k runs n (leg_place_from k runs n)
unfolding InRuns InJobs
runs_found k [] n = tt
runs_found k (x ∷ xs) n = step (runs_found (suc k) xs) (leg_in_jobs k 0 x.jobs n) (jobs_found k 0 x.jobs n)
  where
    step : ((m : ℕ) → InRuns (suc k) xs m (leg_place_from (suc k) xs m)) → (found : Result LegPlace ℕ) → InJobs k 0 x.jobs n found
        → InRuns k (x ∷ xs) n (else_from found (λ left. leg_place_from (suc k) xs left))
    step later (Ok at) h =
        let lt = h.3 in
        let here : nat_lt h.0 (length x.jobs) ≡ true = grind (arith, nat_tests, lt) in
        let job : h.0 ≡ at.job = omega (arith, h.2) in
        let le : h.0 ≤ length x.jobs = omega (arith, lt) in (
          h.0,
          ap (λ c. if c then Some (job_spot k h.0) else job_place_from (suc k) xs (h.0 - length x.jobs)) here
              ∙ ap (λ i. Some (job_spot k i)) job
              ∙ ap (λ i. Some (job_spot i at.job)) (sym h.1),
          h.4 ∙ ap (λ s. s + at.leg) (sym (before_left h.0 x.jobs (jobs_of xs) le)),
        )
    step later (Err m) h = later_in_runs k x xs n m (leg_place_from (suc k) xs m) h (later m)

-- The job of a leg that is found by a number, by its own number; and the number of the leg.
pub record HasNumber (b : Board) (l : ℕ) (at : LegPlace) : Type 0 where
  pub job : ℕ
  pub placed : job_place b job ≡ Some (job_spot at.run at.job)
  pub is : l ≡ before job (board_jobs b) + at.leg

pub has_number : (b : Board) (l : ℕ) (at : LegPlace) → leg_place b l ≡ Some at → HasNumber b l at
unfolding InRuns
has_number b l at is =
    let found = subst (InRuns 0 b.runs l) is (runs_found 0 b.runs l) in
    record { job = found.0; placed = found.1; is = found.2 }

-- ---- the legs beside one, on the board on which it is found

abbrev seen : Board → LegPlace → JobAt → Leg → LegAt
seen b place at leg = record { board = b; place = place; run_plan = at.run_plan; job_plan = at.plan; run = at.run; job = at.job; leg = leg }

seen_board : (b : Board) (place : LegPlace) (at : JobAt) (leg : Leg) → (seen b place at leg).board ≡ b
seen_board b place at leg = refl

pub board_is : (p : Plan) (b : Board) (l : ℕ) (at : LegAt) → leg_at p b l ≡ Some at → at.board ≡ b
board_is p b l at h =
    let place = bind-some (leg_place b l) (λ place. job_placed p b (job_spot place.run place.job) >>= λ job. slice_get job.job.legs place.leg >>= λ leg. Some (seen b place job leg)) at h in
    let job = bind-some (job_placed p b (job_spot place.0.run place.0.job)) (λ job. slice_get job.job.legs place.0.leg >>= λ leg. Some (seen b place.0 job leg)) at place.2 in
    let leg = bind-some (slice_get job.0.job.legs place.0.leg) (λ leg. Some (seen b place.0 job.0 leg)) at job.2 in
    turned (seen b place.0 job.0 leg.0) (same_some (seen b place.0 job.0 leg.0) at leg.2) (seen_board b place.0 job.0 leg.0)
  where
    turned : (x : LegAt) → x ≡ at → x.board ≡ b → at.board ≡ b
    turned x same is = ap (λ (y : LegAt). y.board) (sym same) ∙ is

pub leg_beside : (p : Plan) (b : Board) (l : ℕ) (at : LegAt) → leg_at p b l ≡ Some at → (k : ℕ) (leg : Leg) → slice_get at.job.legs k ≡ Some leg
    → slice_get (board_legs b) (l - at.place.leg + k) ≡ Some leg
leg_beside p b l at is k leg there =
    let stands = leg_stands p b l at is in
    let number = has_number b l at.place stands.place in
    let number_is = number.is in
    let first : l - at.place.leg + k ≡ before number.job (board_jobs b) + k = omega (arith, number_is) in
    let item : slice_get (board_jobs b) number.job ≡ Some at.job =
    sym ((jobs_are_numbered b).there number.job) ∙ ap (λ o. o >>= job_there b) number.placed
    ∙ ap (λ o. o >>= λ (run : Run). slice_get run.jobs at.place.job) stands.in_board ∙ stands.job in
    let found = numbered b number.job k (job_spot at.place.run at.place.job) at.job number.placed item (slice_get_within at.job.legs k leg there) in
    ap (slice_get (board_legs b)) first
    ∙ sym ((legs_are_numbered b).there (before number.job (board_jobs b) + k))
    ∙ ap (λ o. o >>= leg_there b) found
    ∙ ap (λ o. o >>= λ (run : Run). slice_get run.jobs at.place.job >>= λ (job : Job). slice_get job.legs k) stands.in_board
    ∙ ap (λ o. o >>= λ (job : Job). slice_get job.legs k) stands.job
    ∙ there
