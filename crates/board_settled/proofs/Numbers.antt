-- The numbers of legs by their places: so many as there are legs before them in the plan.
use Rattle.std.proofs.Common.{◌≡◌, ℕ, zero, suc, ◌+◌, ◌-◌, ◌<◌, ◌≤◌, Bool, true, false, List, [], ◌∷◌, Option, Some, None, Result, Ok, Err, length, slice_get, nat_lt, if◌then◌else◌, ap, subst, sym, refl, ◌∙◌, arith}
use Rattle.board_settled.specs.Words.{AllZip, Board, HasShape, Job, JobPlan, JobShape, LegPlace, Plan, Run, RunPlan, RunShape, else_from, flat_map, leg_count, leg_in_jobs, leg_place, leg_place_from}
use Rattle.std.proofs.lemmas.Bool.Decides.{nat_tests}
use Rattle.std.proofs.lemmas.List.{length-append}
use Rattle.board_decisions.proofs.Lists.{same_some, no_some}

-- how many legs stand in the first jobs
abbrev pub before_job : ℕ → List JobPlan → ℕ
before_job (suc i) (job ∷ jobs) = length job.legs + before_job i jobs
before_job i jobs = 0

-- how many legs stand in the first runs
abbrev pub before_run : ℕ → List RunPlan → ℕ
before_run (suc i) (run ∷ runs) = leg_count run.jobs + before_run i runs
before_run i runs = 0

pub count-cons : (job : JobPlan) (jobs : List JobPlan) → leg_count (job ∷ jobs) ≡ length job.legs + leg_count jobs
count-cons job jobs = length-append job.legs (flat_map (λ (j : JobPlan). j.legs) jobs)

-- ---- the number of what is found at a place

InJobs : ℕ → ℕ → List JobPlan → ℕ → Result LegPlace ℕ → Type 0
InJobs r k plans n (Ok at) = (i : ℕ) × (at.run ≡ r) × (at.job ≡ k + i) × (n ≡ before_job i plans + at.leg)
InJobs r k plans n (Err m) = n ≡ leg_count plans + m

later_in_jobs : (r k : ℕ) (plan : JobPlan) (plans : List JobPlan) (n past : ℕ) (found : Result LegPlace ℕ) → past ≡ length plan.legs → past ≤ n
    → InJobs r (suc k) plans (n - past) found → InJobs r k (plan ∷ plans) n found
unfolding InJobs
later_in_jobs r k plan plans n past (Ok at) many le h = (suc h.0, h.1, omega (arith, h.2), omega (arith, h.3, le, many))
later_in_jobs r k plan plans n past (Err m) many le h = let all = count-cons plan plans in omega (arith, h, all, le, many)

in_jobs : (r k : ℕ) (plans : List JobPlan) (jobs : List Job) (n : ℕ) → AllZip JobShape plans jobs → InJobs r k plans n (leg_in_jobs r k jobs n)
unfolding InJobs
in_jobs r k [] [] n shape = omega arith
in_jobs r k (plan ∷ plans) (job ∷ jobs) n shape = step (in_jobs r (suc k) plans jobs (n - length job.legs) shape.1) (nat_lt n (length job.legs)) refl
  where
    step : InJobs r (suc k) plans (n - length job.legs) (leg_in_jobs r (suc k) jobs (n - length job.legs)) → (c : Bool) → nat_lt n (length job.legs) ≡ c
        → InJobs r k (plan ∷ plans) n (if c then Ok (record { run = r; job = k; leg = n }) else leg_in_jobs r (suc k) jobs (n - length job.legs))
    step later true is = (0, refl, omega arith, omega arith)
    step later false is =
        let past : length job.legs ≤ n = grind (arith, is) in
        later_in_jobs r k plan plans n (length job.legs) (leg_in_jobs r (suc k) jobs (n - length job.legs)) shape.0.legs past later
in_jobs r k plans jobs n shape = absurd shape

InRuns : ℕ → List RunPlan → ℕ → Option LegPlace → Type 0
InRuns k plans n (Some at) = (i : ℕ) × (at.run ≡ k + i) × ((plan : RunPlan) → slice_get plans i ≡ Some plan → n ≡ before_run i plans + before_job at.job plan.jobs + at.leg)
InRuns k plans n None = Unit {0}

later_in_runs : (k : ℕ) (plan : RunPlan) (plans : List RunPlan) (n left : ℕ) (found : Option LegPlace) → n ≡ leg_count plan.jobs + left
    → InRuns (suc k) plans left found → InRuns k (plan ∷ plans) n found
unfolding InRuns
later_in_runs k plan plans n left (Some at) is h = (suc h.0, omega (arith, h.1), λ q there. let e = h.2 q there in omega (arith, e, is))
later_in_runs k plan plans n left None is h = tt

in_runs : (k : ℕ) (plans : List RunPlan) (runs : List Run) (n : ℕ) → AllZip RunShape plans runs → InRuns k plans n (leg_place_from k runs n)
unfolding InRuns InJobs
in_runs k [] [] n shape = tt
in_runs k (plan ∷ plans) (run ∷ runs) n shape =
    step (λ m. in_runs (suc k) plans runs m shape.1) (leg_in_jobs k 0 run.jobs n) (in_jobs k 0 plan.jobs run.jobs n shape.0)
  where
    step : ((m : ℕ) → InRuns (suc k) plans m (leg_place_from (suc k) runs m)) → (found : Result LegPlace ℕ) → InJobs k 0 plan.jobs n found
        → InRuns k (plan ∷ plans) n (else_from found (λ left. leg_place_from (suc k) runs left))
    step later (Ok at) h =
        let at_job : h.0 ≡ at.job = omega (arith, h.2) in (
          0,
          omega (arith, h.1),
          λ q is.
              let same : before_job h.0 plan.jobs ≡ before_job at.job q.jobs = ap (λ i. before_job i plan.jobs) at_job ∙ ap (λ (x : RunPlan). before_job at.job x.jobs) (same_some plan q is) in
              omega (arith, h.3, same),
        )
    step later (Err m) h = later_in_runs k plan plans n m (leg_place_from (suc k) runs m) h (later m)
in_runs k plans runs n shape = absurd shape

-- the number of a leg, by its place
pub number_at : (p : Plan) (b : Board) (l : ℕ) (at : LegPlace) (plan : RunPlan) → HasShape p b → leg_place b l ≡ Some at → slice_get p.runs at.run ≡ Some plan
    → l ≡ before_run at.run p.runs + before_job at.job plan.jobs + at.leg
unfolding InRuns
number_at p b l at plan shape is planned =
    let found = subst (InRuns 0 p.runs l) is (in_runs 0 p.runs b.runs l shape) in
    let same : found.0 ≡ at.run = omega (arith, found.1) in
    found.2 plan (ap (slice_get p.runs) same ∙ planned) ∙ ap (λ i. before_run i p.runs + before_job at.job plan.jobs + at.leg) same

-- ---- each leg is found by a number

abbrev pub leg_spot : ℕ → ℕ → ℕ → LegPlace
leg_spot r j k = record { run = r; job = j; leg = k }

past : (n m : ℕ) → nat_lt (n + m) n ≡ false
past n m = grind (arith, nat_tests)

rest : (n m : ℕ) → n + m - n ≡ m
rest n m = omega arith

found_in_jobs : (r k : ℕ) (jobs : List Job) (j l : ℕ) (job : Job) → slice_get jobs j ≡ Some job → l < length job.legs
    → (n : ℕ) × (leg_in_jobs r k jobs n ≡ Ok (leg_spot r (k + j) l))
found_in_jobs r k [] j l job at within = absurd (no_some job at)
found_in_jobs r k (x ∷ xs) zero l job at within =
    let less : l < length x.legs = subst (λ (y : Job). l < length y.legs) (sym (same_some x job at)) within in
    let here : nat_lt l (length x.legs) ≡ true = grind (arith, nat_tests, less) in
    let none : k ≡ k + 0 = omega arith in
    (l, rw here (ap (λ i. Ok (leg_spot r i l)) none))
found_in_jobs r k (x ∷ xs) (suc j) l job at within =
    let later = found_in_jobs r (suc k) xs j l job at within in
    let more : suc k + j ≡ k + suc j = omega arith in
    (length x.legs + later.0, rw (past (length x.legs) later.0, rest (length x.legs) later.0) (later.1 ∙ ap (λ i. Ok (leg_spot r i l)) more))

-- the number that stands so far beyond the legs of a run
beyond_jobs : (r k : ℕ) (jobs : List Job) (m : ℕ) → (n : ℕ) × (leg_in_jobs r k jobs n ≡ Err m)
beyond_jobs r k [] m = (m, refl)
beyond_jobs r k (x ∷ xs) m =
    let later = beyond_jobs r (suc k) xs m in
    (length x.legs + later.0, rw (past (length x.legs) later.0, rest (length x.legs) later.0) later.1)

-- by which number the leg at a place is found
pub leg_numbered : (k : ℕ) (runs : List Run) (i j l : ℕ) (run : Run) (job : Job) → slice_get runs i ≡ Some run → slice_get run.jobs j ≡ Some job → l < length job.legs
    → (n : ℕ) × (leg_place_from k runs n ≡ Some (leg_spot (k + i) j l))
leg_numbered k [] i j l run job at there within = absurd (no_some run at)
leg_numbered k (x ∷ xs) zero j l run job at there within =
    let here = found_in_jobs k 0 x.jobs j l job (ap (λ (y : Run). slice_get y.jobs j) (same_some x run at) ∙ there) within in
    let none : 0 + j ≡ j = omega arith in
    let same : k ≡ k + 0 = omega arith in
    (here.0, rw here.1 (λ i. Some (leg_spot (same i) (none i) l)))
leg_numbered k (x ∷ xs) (suc i) j l run job at there within =
    let later = leg_numbered (suc k) xs i j l run job at there within in
    let before = beyond_jobs k 0 x.jobs later.0 in
    let more : suc k + i ≡ k + suc i = omega arith in
    (before.0, rw before.1 (later.1 ∙ ap (λ r. Some (leg_spot r j l)) more))

-- the place that its number tells is that of a leg
pub place_at : (p : Plan) (b : Board) (r j l : ℕ) (plan : RunPlan) (run : Run) (job : Job) → HasShape p b → slice_get p.runs r ≡ Some plan → slice_get b.runs r ≡ Some run
    → slice_get run.jobs j ≡ Some job → l < length job.legs → leg_place b (before_run r p.runs + before_job j plan.jobs + l) ≡ Some (leg_spot r j l)
place_at p b r j l plan run job shape planned in_board there within =
    let found = leg_numbered 0 b.runs r j l run job in_board there within in
    let none : 0 + r ≡ r = omega arith in
    let place : leg_place b found.0 ≡ Some (leg_spot r j l) = found.1 ∙ ap (λ i. Some (leg_spot i j l)) none in
    ap (leg_place b) (sym (number_at p b found.0 (leg_spot r j l) plan shape place planned)) ∙ place
