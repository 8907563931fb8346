-- Each job and each leg of a board has a number, by which it is found.
use Rattle.std.proofs.Common.{◌≡◌, ℕ, zero, suc, ◌+◌, ◌-◌, ◌<◌, true, false, List, [], ◌∷◌, Some, length, slice_get, nat_lt, if◌then◌else◌, ap, subst, sym, refl, ◌∙◌, arith}
use Rattle.std.proofs.lemmas.Bool.Decides.{nat_tests}
use Rattle.std.proofs.lemmas.Option.{slice_get_within}
use Rattle.status_table.specs.Words.{Board, HasShape, Job, JobPlace, JobPlan, JobShape, Leg, Plan, Run, RunPlan, RunShape, job_at, job_place_from, leg_at, leg_place_from}
use Rattle.board_settled.proofs.Numbers.{leg_spot, leg_numbered}
use Rattle.status_table.proofs.Counts.{zip-left}
use Rattle.board_decisions.proofs.Lists.{same_some, no_some}

abbrev pub job_spot : ℕ → ℕ → JobPlace
job_spot r j = record { run = r; job = j }

past : (n m : ℕ) → nat_lt (n + m) n ≡ false
past n m = grind (arith, nat_tests)

rest : (n m : ℕ) → n + m - n ≡ m
rest n m = omega arith

-- ---- jobs

job_numbered : (k : ℕ) (runs : List Run) (i j : ℕ) (run : Run) → slice_get runs i ≡ Some run → j < length run.jobs
    → (n : ℕ) × (job_place_from k runs n ≡ Some (job_spot (k + i) j))
job_numbered k [] i j run at within = absurd (no_some run at)
job_numbered k (x ∷ xs) zero j run at within =
    let less : j < length x.jobs = subst (λ (y : Run). j < length y.jobs) (sym (same_some x run at)) within in
    let here : nat_lt j (length x.jobs) ≡ true = grind (arith, nat_tests, less) in
    let none : k ≡ k + 0 = omega arith in
    (j, ap (λ c. if c then Some (job_spot k j) else job_place_from (suc k) xs (j - length x.jobs)) here ∙ ap (λ r. Some (job_spot r j)) none)
job_numbered k (x ∷ xs) (suc i) j run at within =
    let later = job_numbered (suc k) xs i j run at within in
    let more : suc k + i ≡ k + suc i = omega arith in (
      length x.jobs + later.0,
      ap (λ c. if c then Some (job_spot k (length x.jobs + later.0)) else job_place_from (suc k) xs (length x.jobs + later.0 - length x.jobs)) (past (length x.jobs) later.0)
          ∙ ap (job_place_from (suc k) xs) (rest (length x.jobs) later.0)
          ∙ later.1
          ∙ ap (λ r. Some (job_spot r j)) more,
    )

-- the number by which a job is found, with its plan
pub record JobNumbered (p : Plan) (b : Board) (r j : ℕ) (run : Run) (job : Job) : Type 0 where
  pub n : ℕ
  pub run_plan : RunPlan
  pub plan : JobPlan
  pub found : job_at p b n ≡ Some (record { board = b; place = job_spot r j; run_plan = run_plan; plan = plan; run = run; job = job })

pub number_of_job_at : (p : Plan) (b : Board) (r j : ℕ) (run : Run) (job : Job) → HasShape p b → slice_get b.runs r ≡ Some run → slice_get run.jobs j ≡ Some job
    → JobNumbered p b r j run job
number_of_job_at p b r j run job shape in_board there =
    let number = job_numbered 0 b.runs r j run in_board (slice_get_within run.jobs j job there) in
    let none : 0 + r ≡ r = omega arith in
    let place : job_place_from 0 b.runs number.0 ≡ Some (job_spot r j) = number.1 ∙ ap (λ i. Some (job_spot i j)) none in
    let run_plan = zip-left RunShape p.runs b.runs r run in_board shape in
    let plan = zip-left JobShape run_plan.0.jobs run.jobs j job there run_plan.2 in
    record { n = number.0; run_plan = run_plan.0; plan = plan.0; found = rw (place, run_plan.1, in_board, plan.1, there) refl }

-- ---- legs

-- the number by which a leg is found, with its plan
pub record LegNumbered (p : Plan) (b : Board) (r j l : ℕ) (run : Run) (job : Job) (leg : Leg) : Type 0 where
  pub n : ℕ
  pub run_plan : RunPlan
  pub job_plan : JobPlan
  pub found : leg_at p b n ≡ Some (record { board = b; place = leg_spot r j l; run_plan = run_plan; job_plan = job_plan; run = run; job = job; leg = leg })
  pub planned : slice_get p.runs r ≡ Some run_plan
  pub job_planned : slice_get run_plan.jobs j ≡ Some job_plan

pub number_of_leg_at : (p : Plan) (b : Board) (r j l : ℕ) (run : Run) (job : Job) (leg : Leg) → HasShape p b → slice_get b.runs r ≡ Some run → slice_get run.jobs j ≡ Some job
    → slice_get job.legs l ≡ Some leg → LegNumbered p b r j l run job leg
number_of_leg_at p b r j l run job leg shape in_board there at =
    let number = leg_numbered 0 b.runs r j l run job in_board there (slice_get_within job.legs l leg at) in
    let none : 0 + r ≡ r = omega arith in
    let place : leg_place_from 0 b.runs number.0 ≡ Some (leg_spot r j l) = number.1 ∙ ap (λ i. Some (leg_spot i j l)) none in
    let run_plan = zip-left RunShape p.runs b.runs r run in_board shape in
    let plan = zip-left JobShape run_plan.0.jobs run.jobs j job there run_plan.2 in
    record {
      n = number.0;
      run_plan = run_plan.0;
      job_plan = plan.0;
      found = rw (place, run_plan.1, in_board, plan.1, there, at) refl;
      planned = run_plan.1;
      job_planned = plan.1;
    }
