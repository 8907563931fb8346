-- In a plan that was accepted, needs point backwards.
use Rattle.std.proofs.Common.{◌≡◌, ℕ, zero, suc, ◌+◌, ◌-◌, ◌<◌, ◌≤◌, ◌==◌, ◌&&◌, Bool, true, false, List, [], ◌∷◌, ◌++◌, Option, Some, None, length, slice_get, nat_le, nat_lt, codes, decimal, ap, subst, sym, refl, ◌∙◌, arith}
use Rattle.std.specs.List.{flat_map, list_all, AllZip}
use Rattle.std.proofs.lemmas.Bool.Decides.{nat_tests}
use Rattle.std.proofs.lemmas.Bool.{leb-true, le-leb}
use Rattle.std.proofs.lemmas.List.{length-append}
use Rattle.std.proofs.lemmas.Option.{slice_get_within}
use Rattle.status_table.specs.Words.{Board, HasAsMany, HasShape, InPlay, IsNumberedIn, IsPlan, Job, JobAt, JobPlan, JobShape, Path, Plan, Run, RunPlan, RunShape, StandsAfterNeeds, all_there, are_distinct, ascend_between, board_jobs, each_pair, first_of, group_rules, if_there, is_condition, is_flag, is_id, is_job_output, is_variable, job_at, job_ids, job_rules, jobs_rules, legs_of_runs, legs_rules, or_else, plan_jobs, roots_rules, rule, run_rules, runs_rules, steps_rules, under}
use Rattle.board_decisions.specs.Ancestors.{NeedsPointBack}
use Rattle.board_decisions.proofs.Lists.{get-left, and-left, and-right, and-both, same_some, no_some, get-right}
use Rattle.status_table.proofs.Found.{job_stands}
use Rattle.status_table.proofs.Lists.{zip-length, zip-append}
use Rattle.status_table.proofs.Numbers.{jobs_before, number_of_job}

-- ---- a search that finds nothing

some_none : (path : Path) → Some path ≡ None → ⊥
some_none path h = cc

first-none : (a b : Option Path) → or_else a b ≡ None → a ≡ None
first-none None b h = refl
first-none (Some path) b h = h

later-none : (a b : Option Path) → or_else a b ≡ None → b ≡ None
later-none None b h = h
later-none (Some path) b h = absurd (some_none path h)

under-none : (key : Path) (found : Option Path) → under key found ≡ None → found ≡ None
under-none key None h = refl
under-none key (Some path) h = cc

rule-none : (path : Path) (holds : Bool) → rule path holds ≡ None → holds ≡ true
rule-none path true h = refl
rule-none path false h = absurd (some_none path h)

fifth-none : (a b c d e f : Option Path) → or_else a (or_else b (or_else c (or_else d (or_else e f)))) ≡ None → e ≡ None
fifth-none a b c d e f h =
    first-none e f (later-none d (or_else e f) (later-none c (or_else d (or_else e f)) (later-none b (or_else c (or_else d (or_else e f)))
    (later-none a (or_else b (or_else c (or_else d (or_else e f)))) h))))

sixth-none : (a b c d e f g : Option Path) → or_else a (or_else b (or_else c (or_else d (or_else e (or_else f g))))) ≡ None → f ≡ None
sixth-none a b c d e f g h = fifth-none b c d e f g (later-none a (or_else b (or_else c (or_else d (or_else e (or_else f g))))) h)

seventh-none : (a b c d e f g h : Option Path) → or_else a (or_else b (or_else c (or_else d (or_else e (or_else f (or_else g h)))))) ≡ None → g ≡ None
seventh-none a b c d e f g h k = sixth-none b c d e f g h (later-none a (or_else b (or_else c (or_else d (or_else e (or_else f (or_else g h)))))) k)

-- ---- the rules of needs and numbers

needs_rule : (first number : ℕ) (j : JobPlan) → job_rules first number j ≡ None → ascend_between first number j.needs ≡ true
needs_rule first number j h =
    rule-none (codes "needs") (ascend_between first number j.needs)
    (sixth-none (rule (codes "condition") (all_there is_condition j.condition)) (under (codes "env") (each_pair is_variable j.env))
    (under (codes "group") (if_there group_rules j.group)) (rule (codes "id") (is_id j.id)) (legs_rules j)
    (rule (codes "needs") (ascend_between first number j.needs))
    (or_else (rule (codes "number") (j.number == number)) (or_else (under (codes "outputs") (each_pair is_job_output j.outputs))
    (or_else (steps_rules j.steps) (rule (codes "tolerate") (is_flag j.tolerate))))) h)

number_rule : (first number : ℕ) (j : JobPlan) → job_rules first number j ≡ None → j.number ≡ number
number_rule first number j h =
    let is = rule-none (codes "number") (j.number == number)
    (seventh-none (rule (codes "condition") (all_there is_condition j.condition)) (under (codes "env") (each_pair is_variable j.env))
    (under (codes "group") (if_there group_rules j.group)) (rule (codes "id") (is_id j.id)) (legs_rules j)
    (rule (codes "needs") (ascend_between first number j.needs)) (rule (codes "number") (j.number == number))
    (or_else (under (codes "outputs") (each_pair is_job_output j.outputs)) (or_else (steps_rules j.steps) (rule (codes "tolerate") (is_flag j.tolerate)))) h) in
    grind (arith, nat_tests, is)

jobs_rule : (first : ℕ) (run : RunPlan) → run_rules first run ≡ None → jobs_rules first 0 run.jobs ≡ None
jobs_rule first run h =
    under-none (codes "jobs") (jobs_rules first 0 run.jobs)
    (fifth-none (under (codes "env") (each_pair is_variable run.env)) (under (codes "group") (if_there group_rules run.group))
    (rule (codes "jobs") (nat_le 1 (length run.jobs) && nat_le (length run.jobs) 256)) (rule (codes "jobs") (are_distinct (job_ids run.jobs)))
    (under (codes "jobs") (jobs_rules first 0 run.jobs)) (under (codes "roots") (roots_rules run.roots)) h)

each_job : (first k : ℕ) (jobs : List JobPlan) → jobs_rules first k jobs ≡ None → (i : ℕ) (job : JobPlan) → slice_get jobs i ≡ Some job
    → job_rules first (first + (k + i)) job ≡ None
each_job first k [] h i job is = absurd (no_some job is)
each_job first k (j ∷ js) h zero job is =
    let here = under-none (decimal k) (job_rules first (first + k) j) (first-none (under (decimal k) (job_rules first (first + k) j)) (jobs_rules first (suc k) js) h) in
    let number : first + k ≡ first + (k + 0) = omega arith in
    subst (λ (x : JobPlan). job_rules first (first + (k + 0)) x ≡ None) (same_some j job is) (subst (λ n. job_rules first n j ≡ None) number here)
each_job first k (j ∷ js) h (suc i) job is =
    let later = later-none (under (decimal k) (job_rules first (first + k) j)) (jobs_rules first (suc k) js) h in
    let number : first + (suc k + i) ≡ first + (k + suc i) = omega arith in
    subst (λ n. job_rules first n job ≡ None) number (each_job first (suc k) js later i job is)

-- how many jobs are planned in the first runs
abbrev planned_before : ℕ → List RunPlan → ℕ
planned_before zero runs = 0
planned_before (suc i) [] = 0
planned_before (suc i) (run ∷ runs) = length run.jobs + planned_before i runs

each_run : (first k : ℕ) (runs : List RunPlan) → runs_rules first k runs ≡ None → (i : ℕ) (run : RunPlan) → slice_get runs i ≡ Some run
    → run_rules (first + planned_before i runs) run ≡ None
each_run first k [] h i run is = absurd (no_some run is)
each_run first k (r ∷ rs) h zero run is =
    let here = under-none (decimal k) (run_rules first r) (first-none (under (decimal k) (run_rules first r)) (runs_rules (first + length r.jobs) (suc k) rs) h) in
    let number : first ≡ first + 0 = omega arith in
    subst (λ (x : RunPlan). run_rules (first + 0) x ≡ None) (same_some r run is) (subst (λ n. run_rules n r ≡ None) number here)
each_run first k (r ∷ rs) h (suc i) run is =
    let later = later-none (under (decimal k) (run_rules first r)) (runs_rules (first + length r.jobs) (suc k) rs) h in
    let number : first + length r.jobs + planned_before i rs ≡ first + (length r.jobs + planned_before i rs) = omega arith in
    subst (λ n. run_rules n run ≡ None) number (each_run (first + length r.jobs) (suc k) rs later i run is)

-- ---- the same by the places of a board

planned-jobs_before : (i : ℕ) (plans : List RunPlan) (runs : List Run) → AllZip RunShape plans runs → planned_before i plans ≡ jobs_before i runs
planned-jobs_before zero plans runs h = refl
planned-jobs_before (suc i) [] [] h = refl
planned-jobs_before (suc i) [] (x ∷ xs) h = absurd h
planned-jobs_before (suc i) (q ∷ ps) [] h = absurd h
planned-jobs_before (suc i) (q ∷ ps) (x ∷ xs) h =
    let here = zip-length JobShape q.jobs x.jobs h.0 in let later = planned-jobs_before i ps xs h.1 in omega (arith, here, later)

between : (first low high : ℕ) (ns : List ℕ) → first ≤ low → ascend_between low high ns ≡ true → list_all (λ need. nat_le first need && nat_lt need high) ns ≡ true
between first low high [] le h = refl
between first low high (n ∷ ns) le h =
    let here = and-left (nat_le low n && nat_lt n high) (ascend_between (suc n) high ns) h in
    let least = leb-true low n (and-left (nat_le low n) (nat_lt n high) here) in
    and-both (nat_le first n && nat_lt n high) (list_all (λ need. nat_le first need && nat_lt need high) ns)
    (and-both (nat_le first n) (nat_lt n high) (le-leb first n (omega (arith, le, least))) (and-right (nat_le low n) (nat_lt n high) here))
    (between first (suc n) high ns (omega (arith, le, least)) (and-right (nat_le low n && nat_lt n high) (ascend_between (suc n) high ns) h))

-- how many jobs stand before the run of a job, in the plan as on the board
before_same : (p : Plan) (b : Board) (j : ℕ) (at : JobAt) → HasShape p b → job_at p b j ≡ Some at → j ≡ planned_before at.place.run p.runs + at.place.job
before_same p b j at shape is =
    let before = planned-jobs_before at.place.run p.runs b.runs shape in
    let number = number_of_job b j at.place (job_stands p b j at is).place in
    omega (arith, before, number)

-- the rules of the jobs beside one
rules_beside : (p : Plan) (b : Board) (j : ℕ) (at : JobAt) → IsPlan p → job_at p b j ≡ Some at
    → (k : ℕ) (job : JobPlan) → slice_get at.run_plan.jobs k ≡ Some job → job_rules (planned_before at.place.run p.runs) (planned_before at.place.run p.runs + k) job ≡ None
rules_beside p b j at rules is k job there =
    let some_runs = rule (codes "runs") (nat_le 1 (length p.runs) && nat_le (length p.runs) 64) in
    let few_legs = rule (codes "runs") (nat_le (legs_of_runs p.runs) 4096) in
    let of_runs = under (codes "runs") (runs_rules 0 0 p.runs) in
    let all_runs = under-none (codes "runs") (runs_rules 0 0 p.runs) (first-none of_runs few_legs (later-none some_runs (or_else of_runs few_legs) rules)) in
    let of_run = jobs_rule (0 + planned_before at.place.run p.runs) at.run_plan (each_run 0 0 p.runs all_runs at.place.run at.run_plan (job_stands p b j at is).in_plan) in
    let low : 0 + planned_before at.place.run p.runs ≡ planned_before at.place.run p.runs = omega arith in
    let none : 0 + k ≡ k = omega arith in
    subst (λ first. job_rules first (first + k) job ≡ None) low
    (subst (λ i. job_rules (0 + planned_before at.place.run p.runs) (0 + planned_before at.place.run p.runs + i) job ≡ None) none
    (each_job (0 + planned_before at.place.run p.runs) 0 at.run_plan.jobs of_run k job there))

-- in a plan that was accepted, the needs of the jobs beside one point backwards
needs_point_back : (p : Plan) (b : Board) (j : ℕ) (at : JobAt) → IsPlan p → HasShape p b → job_at p b j ≡ Some at
    → NeedsPointBack (first_of j at) at.run_plan.jobs
needs_point_back p b j at rules shape is =
    let number = before_same p b j at shape is in
    let same : planned_before at.place.run p.runs ≡ j - at.place.job = omega (arith, number) in
    subst (λ first. NeedsPointBack first at.run_plan.jobs) same (λ k job there.
    between (planned_before at.place.run p.runs) (planned_before at.place.run p.runs) (planned_before at.place.run p.runs + k) job.needs (omega arith)
    (needs_rule (planned_before at.place.run p.runs) (planned_before at.place.run p.runs + k) job (rules_beside p b j at rules is k job there)))

job_within : (p : Plan) (b : Board) (j : ℕ) (at : JobAt) → job_at p b j ≡ Some at → at.place.job < length at.run_plan.jobs
job_within p b j at is = slice_get_within at.run_plan.jobs at.place.job at.plan (job_stands p b j at is).plan

pub stands_after_needs : (p : Plan) (b : Board) (j : ℕ) (at : JobAt) → InPlay p b → job_at p b j ≡ Some at → StandsAfterNeeds (first_of j at) at
stands_after_needs p b j at in_play is = record { back = needs_point_back p b j at in_play.rules in_play.shape is; within = job_within p b j at is }

-- ---- numbers

planned_item : (runs : List RunPlan) (r : ℕ) (run : RunPlan) (k : ℕ) → slice_get runs r ≡ Some run → k < length run.jobs
    → slice_get (flat_map (λ (x : RunPlan). x.jobs) runs) (planned_before r runs + k) ≡ slice_get run.jobs k
planned_item [] r run k is within = absurd (no_some run is)
planned_item (x ∷ xs) zero run k is within =
    let same : x ≡ run = same_some x run is in
    let none : 0 + k ≡ k = omega arith in
    let here : k < length x.jobs = subst (λ (y : RunPlan). k < length y.jobs) (sym same) within in
    ap (slice_get (x.jobs ++ flat_map (λ (y : RunPlan). y.jobs) xs)) none ∙ get-left x.jobs (flat_map (λ (y : RunPlan). y.jobs) xs) k here ∙ ap (λ (y : RunPlan). slice_get y.jobs k) same
planned_item (x ∷ xs) (suc r) run k is within =
    let rest : length x.jobs + planned_before r xs + k - length x.jobs ≡ planned_before r xs + k = omega arith in
    get-right x.jobs (flat_map (λ (y : RunPlan). y.jobs) xs) (length x.jobs + planned_before r xs + k) (omega arith)
    ∙ ap (slice_get (flat_map (λ (y : RunPlan). y.jobs) xs)) rest
    ∙ planned_item xs r run k is within

pub is_numbered_in : (p : Plan) (b : Board) (j : ℕ) (at : JobAt) → InPlay p b → job_at p b j ≡ Some at → IsNumberedIn p j at
is_numbered_in p b j at in_play is =
    let stands = job_stands p b j at is in
    let number = before_same p b j at in_play.shape is in
    record {
      item = ap (slice_get (plan_jobs p)) number ∙ planned_item p.runs at.place.run at.run_plan at.place.job stands.in_plan (job_within p b j at is) ∙ stands.plan;
      number = number_rule (planned_before at.place.run p.runs) (planned_before at.place.run p.runs + at.place.job) at.plan
          (rules_beside p b j at in_play.rules is at.place.job at.plan stands.plan) ∙ sym number;
    }

jobs_beside : (plans : List RunPlan) (runs : List Run) → AllZip RunShape plans runs
    → AllZip JobShape (flat_map (λ (x : RunPlan). x.jobs) plans) (flat_map (λ (x : Run). x.jobs) runs)
jobs_beside [] [] h = tt
jobs_beside [] (x ∷ xs) h = absurd h
jobs_beside (q ∷ ps) [] h = absurd h
jobs_beside (q ∷ ps) (x ∷ xs) h =
    zip-append JobShape q.jobs (flat_map (λ (y : RunPlan). y.jobs) ps) x.jobs (flat_map (λ (y : Run). y.jobs) xs) h.0 (jobs_beside ps xs h.1)

as_many_legs : (plans : List JobPlan) (jobs : List Job) → AllZip JobShape plans jobs
    → length (flat_map (λ (x : Job). x.legs) jobs) ≡ length (flat_map (λ (x : JobPlan). x.legs) plans)
as_many_legs [] [] h = refl
as_many_legs [] (x ∷ xs) h = absurd h
as_many_legs (q ∷ ps) [] h = absurd h
as_many_legs (q ∷ ps) (x ∷ xs) h =
    let here = h.0.legs in let later = as_many_legs ps xs h.1 in
    let made = length-append x.legs (flat_map (λ (y : Job). y.legs) xs) in
    let planned = length-append q.legs (flat_map (λ (y : JobPlan). y.legs) ps) in
    omega (arith, here, later, made, planned)

pub has_as_many : (p : Plan) (b : Board) → HasShape p b → HasAsMany p b
has_as_many p b shape =
    let beside = jobs_beside p.runs b.runs shape in
    record { jobs = sym (zip-length JobShape (plan_jobs p) (board_jobs b) beside); legs = as_many_legs (plan_jobs p) (board_jobs b) beside }
