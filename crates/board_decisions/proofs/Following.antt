-- The legs of a job have numbers that follow each other.
use Rattle.std.proofs.Common.{◌≡◌, ℕ, suc, ◌+◌, ◌-◌, ◌≤◌, Bool, true, false, List, [], ◌∷◌, Some, Result, Ok, Err, length, nat_lt, if◌then◌else◌, ap, refl, arith}
use Rattle.plan_values.specs.Words.{Job, Run}
use Rattle.board_decisions.specs.Place.{leg_in_jobs, leg_place_from, else_from}
use Rattle.board_decisions.specs.declared.place.LegPlace.{LegPlace}
use Rattle.board_decisions.proofs.Lists.{same_some, no_some}

-- the leg of the same job so many further on
abbrev pub further : LegPlace → ℕ → LegPlace
further at i = record { run = at.run; job = at.job; leg = at.leg + i }

abbrev first : ℕ → ℕ → ℕ → LegPlace
first r k n = record { run = r; job = k; leg = n }

-- what is found in runs from one on stands there or later
run-of : (r k : ℕ) (jobs : List Job) (n : ℕ) (at : LegPlace) → leg_in_jobs r k jobs n ≡ Ok at → at.run ≡ r
run-of r k [] n at is = cc
run-of r k (job ∷ jobs) n at is = by (nat_lt n (length job.legs)) (run-of r (suc k) jobs (n - length job.legs) at) is
  where
    by : (c : Bool) → (leg_in_jobs r (suc k) jobs (n - length job.legs) ≡ Ok at → at.run ≡ r)
        → (if c then Ok (first r k n) else leg_in_jobs r (suc k) jobs (n - length job.legs)) ≡ Ok at → at.run ≡ r
    by true later found = let same : at ≡ first r k n = cc found in ap (λ (x : LegPlace). x.run) same
    by false later found = later found

from-run : (k : ℕ) (runs : List Run) (n : ℕ) (at : LegPlace) → leg_place_from k runs n ≡ Some at → k ≤ at.run
from-run k [] n at is = absurd (no_some at is)
from-run k (run ∷ runs) n at is = by (leg_in_jobs k 0 run.jobs n) refl (λ left. from-run (suc k) runs left at) is
  where
    by : (found : Result LegPlace ℕ) → leg_in_jobs k 0 run.jobs n ≡ found → ((left : ℕ) → leg_place_from (suc k) runs left ≡ Some at → suc k ≤ at.run)
        → else_from found (λ left. leg_place_from (suc k) runs left) ≡ Some at → k ≤ at.run
    by (Ok place) found later some =
        let same = ap (λ (x : LegPlace). x.run) (same_some place at some) in
        let own = run-of k 0 run.jobs n place found in
        omega (arith, same, own)
    by (Err left) found later some = let there = later left some in omega (arith, there)
