-- The leg with a number is planned as that item of all legs of the plan.
use Rattle.std.proofs.Common.{◌≡◌, ℕ, suc, ◌+◌, ◌-◌, ◌<◌, ◌≤◌, Bool, true, false, List, [], ◌∷◌, Option, Some, None, Result, Ok, Err, length, slice_get, nat_lt, if◌then◌else◌, ap, subst, refl, ◌∙◌, arith}
use Rattle.std.specs.List.{flat_map, AllZip}
use Rattle.std.proofs.lemmas.List.{length-append}
use Rattle.status_table.specs.Words.{Board, HasShape, IsPlannedAt, Job, JobPlan, JobShape, LegAt, LegPlace, Plain, Plan, Run, RunPlan, RunShape, else_from, leg_at, leg_in_jobs, leg_place_from, ◌>>=◌}
use Rattle.board_decisions.proofs.Lists.{get-left, get-right}
use Rattle.status_table.proofs.Found.{leg_stands}
use Rattle.status_table.proofs.Lists.{flat_map-twice}

abbrev Combination : Type 0
Combination = List (List ℕ × Plain)

abbrev legs_of : List JobPlan → List Combination
legs_of plans = flat_map (λ plan. plan.legs) plans

abbrev legs_of_runs : List RunPlan → List Combination
legs_of_runs plans = flat_map (λ run. legs_of run.jobs) plans

abbrev leg_of_jobs : List JobPlan → ℕ → ℕ → Option Combination
leg_of_jobs plans j l = slice_get plans j >>= λ plan. slice_get plan.legs l

abbrev leg_of_runs : List RunPlan → ℕ → ℕ → ℕ → Option Combination
leg_of_runs plans r j l = slice_get plans r >>= λ run. leg_of_jobs run.jobs j l

-- ---- among the jobs of a run

InJobs : ℕ → ℕ → List JobPlan → ℕ → Result LegPlace ℕ → Type 0
InJobs r k plans n (Ok at) =
    (i : ℕ) × (at.run ≡ r) × (at.job ≡ k + i) × (n < length (legs_of plans)) × (slice_get (legs_of plans) n ≡ leg_of_jobs plans i at.leg)
InJobs r k plans n (Err m) = n ≡ length (legs_of plans) + m

later_in_jobs : (r k : ℕ) (plan : JobPlan) (plans : List JobPlan) (n : ℕ) (found : Result LegPlace ℕ) → length plan.legs ≤ n
    → InJobs r (suc k) plans (n - length plan.legs) found → InJobs r k (plan ∷ plans) n found
unfolding InJobs
later_in_jobs r k plan plans n (Ok at) le h =
    let len = length-append plan.legs (legs_of plans) in
    (suc h.0, h.1, omega (arith, h.2), omega (arith, h.3, len, le), get-right plan.legs (legs_of plans) n le ∙ h.4)
later_in_jobs r k plan plans n (Err m) le h =
    let len = length-append plan.legs (legs_of plans) in
    omega (arith, h, len, le)

in_jobs : (r k : ℕ) (plans : List JobPlan) (jobs : List Job) (n : ℕ) → AllZip JobShape plans jobs → InJobs r k plans n (leg_in_jobs r k jobs n)
unfolding InJobs
in_jobs r k [] [] n shape = omega arith
in_jobs r k [] (job ∷ jobs) n shape = absurd shape
in_jobs r k (plan ∷ plans) [] n shape = absurd shape
in_jobs r k (plan ∷ plans) (job ∷ jobs) n shape = step (in_jobs r (suc k) plans jobs (n - length job.legs) shape.1) (nat_lt n (length job.legs)) refl
  where
    step : InJobs r (suc k) plans (n - length job.legs) (leg_in_jobs r (suc k) jobs (n - length job.legs)) → (c : Bool) → nat_lt n (length job.legs) ≡ c
        → InJobs r k (plan ∷ plans) n (if c then Ok (record { run = r; job = k; leg = n }) else leg_in_jobs r (suc k) jobs (n - length job.legs))
    step later true is =
        let as_many : length job.legs ≡ length plan.legs = shape.0.legs in
        let within : n < length job.legs = grind (arith, is) in
        let lt : n < length plan.legs = omega (arith, within, as_many) in
        let len = length-append plan.legs (legs_of plans) in
        (0, refl, omega arith, omega (arith, lt, len), get-left plan.legs (legs_of plans) n lt)
    step later false is =
        let as_many : length job.legs ≡ length plan.legs = shape.0.legs in
        let past : length job.legs ≤ n = grind (arith, is) in
        later_in_jobs r k plan plans n (leg_in_jobs r (suc k) jobs (n - length job.legs)) (omega (arith, past, as_many))
        (subst (λ (len : ℕ). InJobs r (suc k) plans (n - len) (leg_in_jobs r (suc k) jobs (n - length job.legs))) as_many later)

-- ---- among the runs

InRuns : ℕ → List RunPlan → ℕ → Option LegPlace → Type 0
InRuns k plans n (Some at) = (i : ℕ) × (at.run ≡ k + i) × (slice_get (legs_of_runs plans) n ≡ leg_of_runs plans i at.job at.leg)
InRuns k plans n None = Unit {0}

later_in_runs : (k : ℕ) (plan : RunPlan) (plans : List RunPlan) (n : ℕ) (found : Option LegPlace) → length (legs_of plan.jobs) ≤ n
    → InRuns (suc k) plans (n - length (legs_of plan.jobs)) found → InRuns k (plan ∷ plans) n found
unfolding InRuns
later_in_runs k plan plans n (Some at) le h = (suc h.0, omega (arith, h.1), get-right (legs_of plan.jobs) (legs_of_runs plans) n le ∙ h.2)
later_in_runs k plan plans n None le h = tt

in_runs : (k : ℕ) (plans : List RunPlan) (runs : List Run) (n : ℕ) → AllZip RunShape plans runs → InRuns k plans n (leg_place_from k runs n)
unfolding InRuns InJobs
in_runs k [] [] n shape = tt
in_runs k [] (run ∷ runs) n shape = absurd shape
in_runs k (plan ∷ plans) [] n shape = absurd shape
in_runs k (plan ∷ plans) (run ∷ runs) n shape =
    step (λ m. in_runs (suc k) plans runs m shape.1) (leg_in_jobs k 0 run.jobs n) (in_jobs k 0 plan.jobs run.jobs n shape.0)
  where
    step : ((m : ℕ) → InRuns (suc k) plans m (leg_place_from (suc k) runs m)) → (found : Result LegPlace ℕ) → InJobs k 0 plan.jobs n found
        → InRuns k (plan ∷ plans) n (else_from found (λ left. leg_place_from (suc k) runs left))
    step later (Ok at) h =
        let at_job : h.0 ≡ at.job = omega (arith, h.2) in
        (0, omega (arith, h.1), get-left (legs_of plan.jobs) (legs_of_runs plans) n h.3 ∙ h.4 ∙ ap (λ i. leg_of_jobs plan.jobs i at.leg) at_job)
    step later (Err m) h =
        let is : m ≡ n - length (legs_of plan.jobs) = omega (arith, h) in
        later_in_runs k plan plans n (leg_place_from (suc k) runs m) (omega (arith, h)) (subst (λ (i : ℕ). InRuns (suc k) plans i (leg_place_from (suc k) runs m)) is (later m))

pub is_planned_at : (p : Plan) (b : Board) (l : ℕ) (at : LegAt) → HasShape p b → leg_at p b l ≡ Some at → IsPlannedAt p l at
unfolding InRuns
is_planned_at p b l at shape is =
    let stands = leg_stands p b l at is in
    let found = subst (InRuns 0 p.runs l) stands.place (in_runs 0 p.runs b.runs l shape) in
    let same : found.0 ≡ at.place.run = omega (arith, found.1) in
    ap (λ legs. slice_get legs l) (flat_map-twice (λ (run : RunPlan). run.jobs) (λ (job : JobPlan). job.legs) p.runs)
    ∙ found.2
    ∙ ap (λ i. leg_of_runs p.runs i at.place.job at.place.leg) same
    ∙ ap (λ o. o >>= λ run. leg_of_jobs run.jobs at.place.job at.place.leg) stands.in_plan
    ∙ ap (λ o. o >>= λ job. slice_get job.legs at.place.leg) stands.job_plan
