-- The numbers of a run's jobs follow each other, and so do those of its legs.
use Rattle.std.proofs.Common.{◌≡◌, ℕ, suc, ◌+◌, ◌-◌, ◌<◌, ◌≤◌, ◌⊎◌, inl, inr, Bool, true, false, List, [], ◌∷◌, Option, Some, Result, Ok, Err, length, slice_get, nat_lt, ap, sym, refl, ◌∙◌, arith, zero, subst}
use Rattle.std.proofs.lemmas.Bool.{false_from_ne_true, le-leb, leb-true}
use Rattle.std.proofs.lemmas.List.Sums.{sum_by-cons}
use Rattle.flat_board.specs.Words.{Board, Job, JobPlace, LegPlace, Run, else_from, job_place, job_place_from, leg_in_jobs, leg_place, leg_place_from, legs_of_jobs}
use Rattle.board_decisions.proofs.Lists.{same_some, no_some}
use Rattle.status_table.proofs.Numbers.{jobs_before, number_of_job}

-- ---- jobs

abbrev job_of : ℕ → ℕ → JobPlace
job_of r n = record { run = r; job = n }

-- the job of a run so many numbers further on than the jobs of the runs before
placed-from : (k : ℕ) (runs : List Run) (r j : ℕ) (run : Run) → slice_get runs r ≡ Some run → j < length run.jobs → job_place_from k runs (jobs_before r runs + j) ≡ Some (job_of (k + r) j)
placed-from k [] r j run is within = absurd (no_some run is)
placed-from k (x ∷ xs) zero j run is within =
    let none : 0 + j ≡ j = omega arith in
    let here : k ≡ k + 0 = omega arith in
    let few : j < length x.jobs = subst (λ (y : Run). j < length y.jobs) (sym (same_some x run is)) within in
    rw (none, le-leb (suc j) (length x.jobs) (omega (arith, few))) (ap (λ r. Some (job_of r j)) here)
placed-from k (x ∷ xs) (suc r) j run is within =
    let past : length x.jobs + jobs_before r xs + j - length x.jobs ≡ jobs_before r xs + j = omega arith in
    let next : suc k + r ≡ k + suc r = omega arith in
    let many : nat_lt (length x.jobs + jobs_before r xs + j) (length x.jobs) ≡ false =
    false_from_ne_true _ (λ h. let few = leb-true (suc (length x.jobs + jobs_before r xs + j)) (length x.jobs) h in omega (arith, few)) in
    rw (many, past) (placed-from (suc k) xs r j run is within ∙ ap (λ r. Some (job_of r j)) next)

-- the place of a number so many further on, where the run of the job there has that many
pub job_further : (b : Board) (n i : ℕ) (at : JobPlace) (run : Run) → job_place b n ≡ Some at → slice_get b.runs at.run ≡ Some run → at.job + i < length run.jobs
    → job_place b (n + i) ≡ Some (job_of at.run (at.job + i))
job_further b n i at run is there within =
    let number = number_of_job b n at is in
    let same : n + i ≡ jobs_before at.run b.runs + (at.job + i) = omega (arith, number) in
    let none : 0 + at.run ≡ at.run = omega arith in
    ap (job_place b) same ∙ placed-from 0 b.runs at.run (at.job + i) run there within ∙ ap (λ r. Some (job_of r (at.job + i))) none

-- ---- legs of a run's jobs from one on

abbrev first : ℕ → ℕ → ℕ → LegPlace
first r k n = record { run = r; job = k; leg = n }

-- A number is below that of the legs: what is found is of this run, of this job or a later one, and the first leg is that of number 0.
record Within (r k : ℕ) (jobs : List Job) (n : ℕ) : Type 0 where
  at : LegPlace
  found : leg_in_jobs r k jobs n ≡ Ok at
  run : at.run ≡ r
  job : k ≤ at.job
  below : n < legs_of_jobs jobs
  start : at.job ≡ k → at.leg ≡ 0 → n ≡ 0

-- Or it is not: what is left of it is how far it is past them.
record Past (r k : ℕ) (jobs : List Job) (n : ℕ) : Type 0 where
  found : leg_in_jobs r k jobs n ≡ Err (n - legs_of_jobs jobs)
  above : legs_of_jobs jobs ≤ n

located : (r k : ℕ) (jobs : List Job) (n : ℕ) → Within r k jobs n ⊎ Past r k jobs n
located r k [] n = inr (record { found = (let none : n ≡ n - 0 = omega arith in ap (λ m. Err m) none); above = omega arith })
located r k (x ∷ xs) n = by (nat_lt n (length x.legs)) refl (located r (suc k) xs (n - length x.legs))
  where
    sum : legs_of_jobs (x ∷ xs) ≡ length x.legs + legs_of_jobs xs
    sum = sum_by-cons (λ (job : Job). length job.legs) x xs

    by : (c : Bool) → nat_lt n (length x.legs) ≡ c → Within r (suc k) xs (n - length x.legs) ⊎ Past r (suc k) xs (n - length x.legs) → Within r k (x ∷ xs) n ⊎ Past r k (x ∷ xs) n
    by true is later =
        let lt : n < length x.legs = grind (arith, is) in
        let s = sum in
        inl (record {
          at = first r k n;
          found = rw is refl;
          run = refl;
          job = omega arith;
          below = omega (arith, lt, s);
          start = λ job leg. leg;
        })
    by false is (inl w) =
        let le : length x.legs ≤ n = grind (arith, is) in
        let s = sum in let past = w.job in let low = w.below in
        inl (record {
          at = w.at;
          found = rw is w.found;
          run = w.run;
          job = omega (arith, past);
          below = omega (arith, le, low, s);
          start = λ job leg. absurd (omega (arith, past, job));
        })
    by false is (inr p) =
        let le : length x.legs ≤ n = grind (arith, is) in
        let s = sum in let high = p.above in
        let left : (n - length x.legs) - legs_of_jobs xs ≡ n - legs_of_jobs (x ∷ xs) = omega (arith, le, s) in
        inr (record { found = rw is (p.found ∙ ap (λ m. Err m) left); above = omega (arith, le, high, s) })

-- ---- legs of runs from one on

from-run-leg : (k : ℕ) (runs : List Run) (n : ℕ) (at : LegPlace) → leg_place_from k runs n ≡ Some at → k ≤ at.run
from-run-leg k [] n at is = absurd (no_some at is)
from-run-leg k (x ∷ xs) n at is = by (located k 0 x.jobs n) (from-run-leg (suc k) xs (n - legs_of_jobs x.jobs) at)
  where
    by : Within k 0 x.jobs n ⊎ Past k 0 x.jobs n → (leg_place_from (suc k) xs (n - legs_of_jobs x.jobs) ≡ Some at → suc k ≤ at.run) → k ≤ at.run
    by (inl w) later =
        let same = ap (λ (p : LegPlace). p.run) (same_some w.at at (sym (ap (λ r. else_from r (λ left. leg_place_from (suc k) xs left)) w.found) ∙ is)) in
        let own = w.run in
        omega (arith, same, own)
    by (inr p) later = let there = later (sym (ap (λ r. else_from r (λ left. leg_place_from (suc k) xs left)) p.found) ∙ is) in omega (arith, there)

-- What is found by a number so many further on, from the first leg of the first job of a run on, is of that run.
next-leg : (k : ℕ) (runs : List Run) (n i : ℕ) (at other : LegPlace) (run : Run) → leg_place_from k runs n ≡ Some at → at.job ≡ 0 → at.leg ≡ 0 → slice_get runs (at.run - k) ≡ Some run
    → i < legs_of_jobs run.jobs → leg_place_from k runs (n + i) ≡ Some other → at.run ≡ other.run
next-leg k [] n i at other run is job leg there within other_is = absurd (no_some at is)
next-leg k (x ∷ xs) n i at other run is job leg there within other_is =
    by (located k 0 x.jobs n) (located k 0 x.jobs (n + i)) (from-run-leg (suc k) xs (n - legs_of_jobs x.jobs) at)
    (λ found next further. next-leg (suc k) xs (n - legs_of_jobs x.jobs) i at other run found job leg next within further)
  where
    onward : Result LegPlace ℕ → Option LegPlace
    onward r = else_from r (λ left. leg_place_from (suc k) xs left)

    by : Within k 0 x.jobs n ⊎ Past k 0 x.jobs n → Within k 0 x.jobs (n + i) ⊎ Past k 0 x.jobs (n + i)
        → (leg_place_from (suc k) xs (n - legs_of_jobs x.jobs) ≡ Some at → suc k ≤ at.run)
        → (leg_place_from (suc k) xs (n - legs_of_jobs x.jobs) ≡ Some at → slice_get xs (at.run - suc k) ≡ Some run
        → leg_place_from (suc k) xs ((n - legs_of_jobs x.jobs) + i) ≡ Some other → at.run ≡ other.run)
        → at.run ≡ other.run
    by (inl w) (inl v) from later =
        ap (λ (p : LegPlace). p.run) (sym (same_some w.at at (sym (ap onward w.found) ∙ is))) ∙ w.run
        ∙ sym v.run ∙ ap (λ (p : LegPlace). p.run) (same_some v.at other (sym (ap onward v.found) ∙ other_is))
    by (inl w) (inr p) from later =
        let same = same_some w.at at (sym (ap onward w.found) ∙ is) in
        let start = w.start (ap (λ (p : LegPlace). p.job) same ∙ job) (ap (λ (p : LegPlace). p.leg) same ∙ leg) in
        let here : at.run - k ≡ 0 = let own = w.run in let r = ap (λ (p : LegPlace). p.run) same in omega (arith, own, r) in
        let size = ap (λ (r : Run). legs_of_jobs r.jobs) (same_some x run (ap (slice_get (x ∷ xs)) (sym here) ∙ there)) in
        let above = p.above in
        absurd (omega (arith, start, size, above, within))
    by (inr p) (inl v) from later = let above = p.above in let below = v.below in absurd (omega (arith, above, below))
    by (inr p) (inr q) from later =
        let found = sym (ap onward p.found) ∙ is in
        let past = from found in
        let next : at.run - k ≡ suc (at.run - suc k) = omega (arith, past) in
        let above = p.above in
        let less : (n + i) - legs_of_jobs x.jobs ≡ (n - legs_of_jobs x.jobs) + i = omega (arith, above) in
        later found (ap (slice_get (x ∷ xs)) (sym next) ∙ there) (ap (leg_place_from (suc k) xs) (sym less) ∙ sym (ap onward q.found) ∙ other_is)

pub leg_further : (b : Board) (n i : ℕ) (at other : LegPlace) (run : Run) → leg_place b n ≡ Some at → at.job ≡ 0 → at.leg ≡ 0 → slice_get b.runs at.run ≡ Some run
    → i < legs_of_jobs run.jobs → leg_place b (n + i) ≡ Some other → at.run ≡ other.run
leg_further b n i at other run is job leg there within =
    let same : at.run - 0 ≡ at.run = omega arith in
    next-leg 0 b.runs n i at other run is job leg (ap (slice_get b.runs) same ∙ there) within
