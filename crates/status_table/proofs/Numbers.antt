-- The job or leg with a number is that item of all jobs or legs, and to change it at its place is to change that item.
use Rattle.std.proofs.Common.{◌≡◌, ℕ, zero, suc, ◌+◌, ◌-◌, ◌<◌, ◌≤◌, Bool, true, false, List, [], ◌∷◌, ◌++◌, Option, Some, None, Result, Ok, Err, length, slice_get, nat_lt, if◌then◌else◌, is_some, ap, subst, sym, refl, ◌∙◌, arith}
use Rattle.std.specs.List.{flat_map}
use Rattle.std.proofs.lemmas.List.{length-append}
use Rattle.std.proofs.lemmas.Bool.Decides.{nat_tests}
use Rattle.std.proofs.lemmas.Option.{slice_get_past}
use Rattle.status_table.specs.Words.{Board, Job, JobPlace, JobsAreNumbered, Leg, LegPlace, LegsAreNumbered, Run, board_jobs, board_legs, changed, else_from, job_place, job_place_from, job_there, leg_changed, leg_in_jobs, leg_place, leg_place_from, leg_there, with_leg, with_numbered_leg, ◌>>=◌}
use Rattle.board_decisions.proofs.Lists.{get-left, get-right}
use Rattle.status_table.proofs.Lists.{changed-cons, changed-left, changed-right, changed-past, flat_map-twice}

-- ---- jobs

abbrev pub jobs_of : List Run → List Job
jobs_of runs = flat_map (λ run. run.jobs) runs

-- how many jobs stand in the first runs
abbrev pub jobs_before : ℕ → List Run → ℕ
jobs_before zero runs = 0
jobs_before (suc i) [] = 0
jobs_before (suc i) (run ∷ runs) = length run.jobs + jobs_before i runs

abbrev job_of_runs : List Run → ℕ → ℕ → Option Job
job_of_runs runs i j = slice_get runs i >>= λ run. slice_get run.jobs j

JobIn : ℕ → List Run → ℕ → Option JobPlace → Type 0
JobIn k runs n (Some at) =
    (i : ℕ) × (at.run ≡ k + i) × (n ≡ jobs_before i runs + at.job) × (n < length (jobs_of runs)) × (slice_get (jobs_of runs) n ≡ job_of_runs runs i at.job)
JobIn k runs n None = length (jobs_of runs) ≤ n

later_job : (k : ℕ) (run : Run) (runs : List Run) (n : ℕ) (found : Option JobPlace) → length run.jobs ≤ n → JobIn (suc k) runs (n - length run.jobs) found
    → JobIn k (run ∷ runs) n found
unfolding JobIn
later_job k run runs n (Some at) le h =
    let len = length-append run.jobs (jobs_of runs) in
    (suc h.0, omega (arith, h.1), omega (arith, h.2, le), omega (arith, h.3, len), get-right run.jobs (jobs_of runs) n le ∙ h.4)
later_job k run runs n None le h =
    let len = length-append run.jobs (jobs_of runs) in
    omega (arith, h, len, le)

job_in : (k : ℕ) (runs : List Run) (n : ℕ) → JobIn k runs n (job_place_from k runs n)
unfolding JobIn
job_in k [] n = omega arith
job_in k (run ∷ runs) n = step (job_in (suc k) runs (n - length run.jobs)) (nat_lt n (length run.jobs)) refl
  where
    step : JobIn (suc k) runs (n - length run.jobs) (job_place_from (suc k) runs (n - length run.jobs)) → (c : Bool) → nat_lt n (length run.jobs) ≡ c
        → JobIn k (run ∷ runs) n (if c then Some (record { run = k; job = n }) else job_place_from (suc k) runs (n - length run.jobs))
    step later true is =
        let lt : n < length run.jobs = grind (arith, is) in
        let len = length-append run.jobs (jobs_of runs) in
        (0, omega arith, omega arith, omega (arith, lt, len), get-left run.jobs (jobs_of runs) n lt)
    step later false is =
        let le : length run.jobs ≤ n = grind (arith, is) in
        later_job k run runs n (job_place_from (suc k) runs (n - length run.jobs)) le later

placed_job : (b : Board) (n : ℕ) (found : Option JobPlace) → JobIn 0 b.runs n found
    → (is_some found ≡ nat_lt n (length (board_jobs b))) × ((found >>= job_there b) ≡ slice_get (board_jobs b) n)
unfolding JobIn
placed_job b n (Some at) h =
    let same : h.0 ≡ at.run = omega (arith, h.1) in
    let lt = h.3 in
    (grind (arith, nat_tests, lt), sym (h.4 ∙ ap (λ i. job_of_runs b.runs i at.job) same))
placed_job b n None h = (grind (arith, nat_tests, h), sym (slice_get_past (board_jobs b) n h))

pub jobs_are_numbered : (b : Board) → JobsAreNumbered b
jobs_are_numbered b = record {
  placed = λ n. (placed_job b n (job_place b n) (job_in 0 b.runs n)).0;
  there = λ n. (placed_job b n (job_place b n) (job_in 0 b.runs n)).1;
}

-- the number of a job tells how many jobs stand in the runs before its own
pub number_of_job : (b : Board) (n : ℕ) (at : JobPlace) → job_place b n ≡ Some at → n ≡ jobs_before at.run b.runs + at.job
unfolding JobIn
number_of_job b n at is =
    let h = subst (JobIn 0 b.runs n) is (job_in 0 b.runs n) in
    let same : h.0 ≡ at.run = omega (arith, h.1) in
    h.2 ∙ ap (λ i. jobs_before i b.runs + at.job) same

-- ---- legs

abbrev legs_of : List Job → List Leg
legs_of jobs = flat_map (λ job. job.legs) jobs

abbrev legs_of_runs : List Run → List Leg
legs_of_runs runs = flat_map (λ run. legs_of run.jobs) runs

board_legs-by_runs : (b : Board) → board_legs b ≡ legs_of_runs b.runs
board_legs-by_runs b = flat_map-twice (λ run. run.jobs) (λ job. job.legs) b.runs

abbrev leg_of_jobs : List Job → ℕ → ℕ → Option Leg
leg_of_jobs jobs i k = slice_get jobs i >>= λ job. slice_get job.legs k

abbrev leg_of_runs : List Run → ℕ → ℕ → ℕ → Option Leg
leg_of_runs runs i j k = slice_get runs i >>= λ run. leg_of_jobs run.jobs j k

abbrev in_job : ℕ → (Leg → Leg) → Job → Job
in_job k f job = record job { legs = changed job.legs k f }

abbrev in_run : LegPlace → (Leg → Leg) → Run → Run
in_run at f run = record run { jobs = changed run.jobs at.job (in_job at.leg f) }

LegInJobs : ℕ → ℕ → List Job → ℕ → Result LegPlace ℕ → Type 0
LegInJobs r k jobs n (Ok at) =
    (i : ℕ) × (at.run ≡ r) × (at.job ≡ k + i) × (n < length (legs_of jobs)) × (slice_get (legs_of jobs) n ≡ leg_of_jobs jobs i at.leg)
    × ((f : Leg → Leg) → changed (legs_of jobs) n f ≡ legs_of (changed jobs i (in_job at.leg f)))
LegInJobs r k jobs n (Err m) = n ≡ length (legs_of jobs) + m

later_leg_in_jobs : (r k : ℕ) (job : Job) (jobs : List Job) (n : ℕ) (found : Result LegPlace ℕ) → length job.legs ≤ n
    → LegInJobs r (suc k) jobs (n - length job.legs) found → LegInJobs r k (job ∷ jobs) n found
unfolding LegInJobs
later_leg_in_jobs r k job jobs n (Ok at) le h =
    let len = length-append job.legs (legs_of jobs) in (
      suc h.0,
      h.1,
      omega (arith, h.2),
      omega (arith, h.3, len),
      get-right job.legs (legs_of jobs) n le ∙ h.4,
      λ f. changed-right job.legs (legs_of jobs) n f le ∙ ap (λ zs. job.legs ++ zs) (h.5 f) ∙ ap legs_of (sym (changed-cons job jobs h.0 (in_job at.leg f))),
    )
later_leg_in_jobs r k job jobs n (Err m) le h =
    let len = length-append job.legs (legs_of jobs) in
    omega (arith, h, len, le)

leg_in : (r k : ℕ) (jobs : List Job) (n : ℕ) → LegInJobs r k jobs n (leg_in_jobs r k jobs n)
unfolding LegInJobs
leg_in r k [] n = omega arith
leg_in r k (job ∷ jobs) n = step (leg_in r (suc k) jobs (n - length job.legs)) (nat_lt n (length job.legs)) refl
  where
    step : LegInJobs r (suc k) jobs (n - length job.legs) (leg_in_jobs r (suc k) jobs (n - length job.legs)) → (c : Bool) → nat_lt n (length job.legs) ≡ c
        → LegInJobs r k (job ∷ jobs) n (if c then Ok (record { run = r; job = k; leg = n }) else leg_in_jobs r (suc k) jobs (n - length job.legs))
    step later true is =
        let lt : n < length job.legs = grind (arith, is) in
        let len = length-append job.legs (legs_of jobs) in
        (0, refl, omega arith, omega (arith, lt, len), get-left job.legs (legs_of jobs) n lt, λ f. changed-left job.legs (legs_of jobs) n f lt)
    step later false is =
        let le : length job.legs ≤ n = grind (arith, is) in
        later_leg_in_jobs r k job jobs n (leg_in_jobs r (suc k) jobs (n - length job.legs)) le later

LegInRuns : ℕ → List Run → ℕ → Option LegPlace → Type 0
LegInRuns k runs n (Some at) =
    (i : ℕ) × (at.run ≡ k + i) × (n < length (legs_of_runs runs)) × (slice_get (legs_of_runs runs) n ≡ leg_of_runs runs i at.job at.leg)
    × ((f : Leg → Leg) → changed (legs_of_runs runs) n f ≡ legs_of_runs (changed runs i (in_run at f)))
LegInRuns k runs n None = length (legs_of_runs runs) ≤ n

later_leg_in_runs : (k : ℕ) (run : Run) (runs : List Run) (n : ℕ) (found : Option LegPlace) → length (legs_of run.jobs) ≤ n
    → LegInRuns (suc k) runs (n - length (legs_of run.jobs)) found → LegInRuns k (run ∷ runs) n found
unfolding LegInRuns
later_leg_in_runs k run runs n (Some at) le h =
    let len = length-append (legs_of run.jobs) (legs_of_runs runs) in (
      suc h.0,
      omega (arith, h.1),
      omega (arith, h.2, len),
      get-right (legs_of run.jobs) (legs_of_runs runs) n le ∙ h.3,
      λ f. changed-right (legs_of run.jobs) (legs_of_runs runs) n f le ∙ ap (λ zs. legs_of run.jobs ++ zs) (h.4 f) ∙ ap legs_of_runs (sym (changed-cons run runs h.0 (in_run at f))),
    )
later_leg_in_runs k run runs n None le h =
    let len = length-append (legs_of run.jobs) (legs_of_runs runs) in
    omega (arith, h, len, le)

leg_in_runs : (k : ℕ) (runs : List Run) (n : ℕ) → LegInRuns k runs n (leg_place_from k runs n)
unfolding LegInRuns LegInJobs
leg_in_runs k [] n = omega arith
leg_in_runs k (run ∷ runs) n = step (leg_in_runs (suc k) runs) (leg_in_jobs k 0 run.jobs n) (leg_in k 0 run.jobs n)
  where
    step : ((m : ℕ) → LegInRuns (suc k) runs m (leg_place_from (suc k) runs m)) → (found : Result LegPlace ℕ) → LegInJobs k 0 run.jobs n found
        → LegInRuns k (run ∷ runs) n (else_from found (λ left. leg_place_from (suc k) runs left))
    step later (Ok at) h =
        let at_job : h.0 ≡ at.job = omega (arith, h.2) in
        let len = length-append (legs_of run.jobs) (legs_of_runs runs) in
        let got : slice_get (legs_of run.jobs) n ≡ leg_of_jobs run.jobs at.job at.leg = h.4 ∙ ap (λ i. leg_of_jobs run.jobs i at.leg) at_job in
        let put : (f : Leg → Leg) → changed (legs_of run.jobs) n f ≡ legs_of (changed run.jobs at.job (in_job at.leg f)) =
        λ f. h.5 f ∙ ap (λ i. legs_of (changed run.jobs i (in_job at.leg f))) at_job in (
          0,
          omega (arith, h.1),
          omega (arith, h.3, len),
          get-left (legs_of run.jobs) (legs_of_runs runs) n h.3 ∙ got,
          λ f. changed-left (legs_of run.jobs) (legs_of_runs runs) n f h.3 ∙ ap (λ zs. zs ++ legs_of_runs runs) (put f),
        )
    step later (Err m) h =
        let is : n - length (legs_of run.jobs) ≡ m = omega (arith, h) in
        later_leg_in_runs k run runs n (leg_place_from (suc k) runs m) (omega (arith, h)) (subst (λ i. LegInRuns (suc k) runs i (leg_place_from (suc k) runs m)) (sym is) (later m))

placed_leg : (b : Board) (n : ℕ) (found : Option LegPlace) → LegInRuns 0 b.runs n found
    → (is_some found ≡ nat_lt n (length (legs_of_runs b.runs))) × ((found >>= leg_there b) ≡ slice_get (legs_of_runs b.runs) n)
unfolding LegInRuns
placed_leg b n (Some at) h =
    let same : h.0 ≡ at.run = omega (arith, h.1) in
    let lt = h.2 in
    (grind (arith, nat_tests, lt), sym (h.3 ∙ ap (λ i. leg_of_runs b.runs i at.job at.leg) same))
placed_leg b n None h = (grind (arith, nat_tests, h), sym (slice_get_past (legs_of_runs b.runs) n h))

pub legs_are_numbered : (b : Board) → LegsAreNumbered b
legs_are_numbered b = record {
  placed = λ n. (placed_leg b n (leg_place b n) (leg_in_runs 0 b.runs n)).0 ∙ ap (λ legs. nat_lt n (length legs)) (sym (board_legs-by_runs b));
  there = λ n. (placed_leg b n (leg_place b n) (leg_in_runs 0 b.runs n)).1 ∙ ap (λ legs. slice_get legs n) (sym (board_legs-by_runs b));
}

changed_at : (b : Board) (l : ℕ) (at : LegPlace) → LegInRuns 0 b.runs l (Some at) → (f : Leg → Leg)
    → legs_of_runs (changed b.runs at.run (in_run at f)) ≡ changed (legs_of_runs b.runs) l f
unfolding LegInRuns
changed_at b l at h f =
    let same : h.0 ≡ at.run = omega (arith, h.1) in
    sym (h.4 f ∙ ap (λ i. legs_of_runs (changed b.runs i (in_run at f))) same)

-- to change the leg with a number at its place is to change that item of all legs
pub board_legs-changed : (b : Board) (l : ℕ) (at : LegPlace) (f : Leg → Leg) → leg_place b l ≡ Some at → board_legs (with_leg b at f) ≡ changed (board_legs b) l f
board_legs-changed b l at f is =
    board_legs-by_runs (with_leg b at f)
    ∙ changed_at b l at (subst (LegInRuns 0 b.runs l) is (leg_in_runs 0 b.runs l)) f
    ∙ ap (λ legs. changed legs l f) (sym (board_legs-by_runs b))

-- to change the leg with a number is to change that item of all legs
pub numbered_leg-changed : (b : Board) (l : ℕ) (f : Leg → Leg) → board_legs (with_numbered_leg b l f) ≡ changed (board_legs b) l f
numbered_leg-changed b l f = by_place (leg_place b l) refl
  where
    by_place : (found : Option LegPlace) → leg_place b l ≡ found → board_legs (record b { runs = leg_changed b.runs found f }) ≡ changed (board_legs b) l f
    by_place (Some at) is = board_legs-changed b l at f is
    by_place None is =
        let none = ap is_some (sym is) ∙ (legs_are_numbered b).placed l in
        let past : length (board_legs b) ≤ l = grind (arith, nat_tests, none) in
        sym (changed-past (board_legs b) l f past)
