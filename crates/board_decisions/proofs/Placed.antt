-- The place of a number is that item of all places.
use Rattle.std.proofs.Common.{◌≡◌, ℕ, zero, suc, ◌+◌, ◌-◌, ◌<◌, ◌≤◌, Bool, true, false, List, [], ◌∷◌, ◌++◌, Some, Ok, length, map, drop, slice_get, nat_lt, if◌then◌else◌, append_assoc, ap, sym, refl, ◌∙◌, arith}
use Rattle.std.proofs.lemmas.List.{map-append, length-append, length-map}
use Rattle.plan_values.specs.Words.{Board, Job, Run}
use Rattle.board_decisions.specs.Place.{job_place, job_place_from, leg_in_jobs, leg_place, leg_place_from, else_from}
use Rattle.board_decisions.specs.Places.{numbers, sizes, run_sizes, job_in, all_jobs_from, job_places, leg_of, legs_from, all_legs_from, leg_places}
use Rattle.board_decisions.specs.declared.place.JobPlace.{JobPlace}
use Rattle.board_decisions.specs.declared.place.LegPlace.{LegPlace}
use Rattle.board_decisions.proofs.Lists.{get-left, get-right, map-get}

length-numbers : (n : ℕ) → length (numbers n) ≡ n
length-numbers zero = refl
length-numbers (suc n) = let a = length-append (numbers n) (n ∷ []) in let b = length-numbers n in omega (arith, a, b)

get-numbers : (n i : ℕ) → i < n → slice_get (numbers n) i ≡ Some i
get-numbers zero i h = absurd (omega (arith, h))
get-numbers (suc n) i h = by (nat_lt i n) refl (λ lt. get-numbers n i lt)
  where
    by : (c : Bool) → nat_lt i n ≡ c → (i < n → slice_get (numbers n) i ≡ Some i) → slice_get (numbers n ++ n ∷ []) i ≡ Some i
    by true is later =
        let lt : i < n = grind (arith, is) in
        let len = length-numbers n in
        get-left (numbers n) (n ∷ []) i (omega (arith, lt, len)) ∙ later lt
    by false is later =
        let le : n ≤ i = grind (arith, is) in
        let len = length-numbers n in
        let same : i ≡ n = omega (arith, le, h) in
        let none : i - length (numbers n) ≡ 0 = omega (arith, same, len) in
        get-right (numbers n) (n ∷ []) i (omega (arith, le, len)) ∙ ap (slice_get (n ∷ [])) none ∙ ap (λ k. Some k) (sym same)

legs-placed : (r j : ℕ) (jobs : List Job) (rest : List LegPlace) (n : ℕ)
    → slice_get (legs_from r j (sizes jobs) ++ rest) n ≡ else_from (leg_in_jobs r j jobs n) (λ left. slice_get rest left)
legs-placed r j [] rest n = refl
legs-placed r j (job ∷ jobs) rest n = by (nat_lt n (length job.legs)) refl (legs-placed r (suc j) jobs rest (n - length job.legs))
  where
    here : List LegPlace
    here = map (leg_of r j) (numbers (length job.legs))

    size : length here ≡ length job.legs
    size = length-map (numbers (length job.legs)) (leg_of r j) ∙ length-numbers (length job.legs)

    apart : (here ++ legs_from r (suc j) (sizes jobs)) ++ rest ≡ here ++ (legs_from r (suc j) (sizes jobs) ++ rest)
    apart = append_assoc here (legs_from r (suc j) (sizes jobs)) rest

    by : (c : Bool) → nat_lt n (length job.legs) ≡ c
        → slice_get (legs_from r (suc j) (sizes jobs) ++ rest) (n - length job.legs) ≡ else_from (leg_in_jobs r (suc j) jobs (n - length job.legs)) (λ left. slice_get rest left)
        → slice_get ((here ++ legs_from r (suc j) (sizes jobs)) ++ rest) n
        ≡ else_from (if c then Ok (record { run = r; job = j; leg = n }) else leg_in_jobs r (suc j) jobs (n - length job.legs)) (λ left. slice_get rest left)
    by true is later =
        let lt : n < length job.legs = grind (arith, is) in
        let s = size in
        ap (λ xs. slice_get xs n) apart
        ∙ get-left here (legs_from r (suc j) (sizes jobs) ++ rest) n (omega (arith, lt, s))
        ∙ map-get (leg_of r j) (numbers (length job.legs)) n n (get-numbers (length job.legs) n lt)
    by false is later =
        let le : length job.legs ≤ n = grind (arith, is) in
        let s = size in
        ap (λ xs. slice_get xs n) apart
        ∙ get-right here (legs_from r (suc j) (sizes jobs) ++ rest) n (omega (arith, le, s))
        ∙ ap (λ k. slice_get (legs_from r (suc j) (sizes jobs) ++ rest) (n - k)) s
        ∙ later

runs-placed : (r : ℕ) (runs : List Run) (n : ℕ) → slice_get (all_legs_from r (run_sizes runs)) n ≡ leg_place_from r runs n
runs-placed r [] n = refl
runs-placed r (run ∷ runs) n =
    legs-placed r 0 run.jobs (all_legs_from (suc r) (run_sizes runs)) n
    ∙ ap (else_from (leg_in_jobs r 0 run.jobs n)) (λ i left. runs-placed (suc r) runs left i)

-- the place of a leg's number
pub leg_placed : (b : Board) (n : ℕ) → slice_get (leg_places b) n ≡ leg_place b n
leg_placed b n = runs-placed 0 b.runs n

-- the jobs of a run that stand before others
jobs-placed : (r : ℕ) (runs : List Run) (n : ℕ) → slice_get (all_jobs_from r (run_sizes runs)) n ≡ job_place_from r runs n
jobs-placed r [] n = refl
jobs-placed r (run ∷ runs) n = by (nat_lt n (length run.jobs)) refl (jobs-placed (suc r) runs (n - length run.jobs))
  where
    here : List JobPlace
    here = map (job_in r) (numbers (length (sizes run.jobs)))

    size : length here ≡ length run.jobs
    size = length-map (numbers (length (sizes run.jobs))) (job_in r) ∙ length-numbers (length (sizes run.jobs)) ∙ length-map run.jobs (λ (job : Job). length job.legs)

    by : (c : Bool) → nat_lt n (length run.jobs) ≡ c
        → slice_get (all_jobs_from (suc r) (run_sizes runs)) (n - length run.jobs) ≡ job_place_from (suc r) runs (n - length run.jobs)
        → slice_get (here ++ all_jobs_from (suc r) (run_sizes runs)) n ≡ (if c then Some (record { run = r; job = n }) else job_place_from (suc r) runs (n - length run.jobs))
    by true is later =
        let lt : n < length run.jobs = grind (arith, is) in
        let s = size in
        let m = length-map run.jobs (λ (job : Job). length job.legs) in
        get-left here (all_jobs_from (suc r) (run_sizes runs)) n (omega (arith, lt, s))
        ∙ map-get (job_in r) (numbers (length (sizes run.jobs))) n n (get-numbers (length (sizes run.jobs)) n (omega (arith, lt, m)))
    by false is later =
        let le : length run.jobs ≤ n = grind (arith, is) in
        let s = size in
        get-right here (all_jobs_from (suc r) (run_sizes runs)) n (omega (arith, le, s))
        ∙ ap (λ k. slice_get (all_jobs_from (suc r) (run_sizes runs)) (n - k)) s
        ∙ later

-- the place of a job's number
pub job_placed : (b : Board) (n : ℕ) → slice_get (job_places b) n ≡ job_place b n
job_placed b n = jobs-placed 0 b.runs n

-- ---- the places as they are added

pub number_more : {A : Type 0} (f : ℕ → A) (n : ℕ) (before : List A) → (before ++ map f (numbers n)) ++ f n ∷ [] ≡ before ++ map f (numbers (n + 1))
number_more f n before =
    let next : suc n ≡ n + 1 = omega arith in
    append_assoc before (map f (numbers n)) (f n ∷ [])
    ∙ ap (λ xs. before ++ xs) (sym (map-append f (numbers n) (n ∷ [])))
    ∙ ap (λ k. before ++ map f (numbers k)) next

pub jobs_more : (run i : ℕ) (jobs : List Job) (job : Job) (old made : List LegPlace) → drop i jobs ≡ job ∷ drop (i + 1) jobs
    → made ≡ old ++ map (leg_of run i) (numbers (length job.legs))
    → made ++ legs_from run (i + 1) (sizes (drop (i + 1) jobs)) ≡ old ++ legs_from run i (sizes (drop i jobs))
jobs_more run i jobs job old made rest is =
    let next : i + 1 ≡ suc i = omega arith in
    ap (λ xs. xs ++ legs_from run (i + 1) (sizes (drop (i + 1) jobs))) is
    ∙ append_assoc old (map (leg_of run i) (numbers (length job.legs))) (legs_from run (i + 1) (sizes (drop (i + 1) jobs)))
    ∙ ap (λ k. old ++ (map (leg_of run i) (numbers (length job.legs)) ++ legs_from run k (sizes (drop (i + 1) jobs)))) next
    ∙ ap (λ (js : List Job). old ++ legs_from run i (sizes js)) (sym rest)

pub runs_more : (i : ℕ) (runs : List Run) (run : Run) (old made : List LegPlace) → drop i runs ≡ run ∷ drop (i + 1) runs
    → made ≡ old ++ legs_from i 0 (sizes run.jobs)
    → made ++ all_legs_from (i + 1) (run_sizes (drop (i + 1) runs)) ≡ old ++ all_legs_from i (run_sizes (drop i runs))
runs_more i runs run old made rest is =
    let next : i + 1 ≡ suc i = omega arith in
    ap (λ xs. xs ++ all_legs_from (i + 1) (run_sizes (drop (i + 1) runs))) is
    ∙ append_assoc old (legs_from i 0 (sizes run.jobs)) (all_legs_from (i + 1) (run_sizes (drop (i + 1) runs)))
    ∙ ap (λ k. old ++ (legs_from i 0 (sizes run.jobs) ++ all_legs_from k (run_sizes (drop (i + 1) runs)))) next
    ∙ ap (λ (rs : List Run). old ++ all_legs_from i (run_sizes rs)) (sym rest)

pub run_jobs_more : (i : ℕ) (runs : List Run) (run : Run) (old made : List JobPlace) → drop i runs ≡ run ∷ drop (i + 1) runs
    → made ≡ old ++ map (job_in i) (numbers (length run.jobs))
    → made ++ all_jobs_from (i + 1) (run_sizes (drop (i + 1) runs)) ≡ old ++ all_jobs_from i (run_sizes (drop i runs))
run_jobs_more i runs run old made rest is =
    let next : i + 1 ≡ suc i = omega arith in
    let size = length-map run.jobs (λ (job : Job). length job.legs) in
    ap (λ xs. xs ++ all_jobs_from (i + 1) (run_sizes (drop (i + 1) runs))) is
    ∙ append_assoc old (map (job_in i) (numbers (length run.jobs))) (all_jobs_from (i + 1) (run_sizes (drop (i + 1) runs)))
    ∙ ap (λ k. old ++ (map (job_in i) (numbers k) ++ all_jobs_from (i + 1) (run_sizes (drop (i + 1) runs)))) (sym size)
    ∙ ap (λ k. old ++ (map (job_in i) (numbers (length (sizes run.jobs))) ++ all_jobs_from k (run_sizes (drop (i + 1) runs)))) next
    ∙ ap (λ (rs : List Run). old ++ all_jobs_from i (run_sizes rs)) (sym rest)
