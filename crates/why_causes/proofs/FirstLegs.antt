-- The number that is noted of the first leg of each job is how many legs the jobs before have.
use Rattle.std.proofs.Common.{◌≡◌, ◌∙◌, ap, sym, refl, ℕ, zero, suc, ◌+◌, ◌<◌, arith, List, [], ◌∷◌, ◌++◌, Option, Some, None, Ok, Err, length, map, option_map, slice_get}
use Rattle.std.specs.List.{flat_map, AllZip}
use Rattle.std.proofs.lemmas.List.{append_assoc, append-nil, length-append, length-map, map-append}
use Rattle.std.proofs.lemmas.Option.{slice_get-map, slice_get_within}
use Rattle.status_table.specs.Words.{Board, Entry, HasShape, Job, JobPlan, JobShape, Member, Plan, Row, Run, RunPlan, RunShape, board_jobs, new_board, plan_jobs, row}
use Rattle.board_decisions.proofs.Lists.{no_some, same_some}
use Rattle.status_table.proofs.Counts.{map-get-kept}
use Rattle.status_table.proofs.Lists.{zip-append}
use Rattle.status_table.proofs.Sound.{has_as_many}
use Rattle.why_causes.specs.Causes.{first_leg}
use Rattle.why_facts.specs.Notes as spec
use Rattle.why_facts.specs.Notes.{all_noted, new_notes, noted}
use Rattle.why_facts.specs.declared.fact.Change.{Change}
use Rattle.why_facts.specs.declared.notes.JobNotes.{JobNotes}
use Rattle.why_facts.specs.declared.notes.Notes.{Notes}
use Rattle.why_notes.proofs.Numbers.{before}
use Rattle.why_notes.specs.Account.{Account, account_from, account_of, entry_noted, then_account}
use Rattle.why_notes.specs.Changes.{changes}

-- ---- at the start

-- how many legs the first of some jobs have
abbrev planned_before : ℕ → List JobPlan → ℕ
planned_before zero jobs = 0
planned_before (suc n) [] = 0
planned_before (suc n) (job ∷ jobs) = length job.legs + planned_before n jobs

abbrev total : List JobPlan → ℕ
total [] = 0
total (job ∷ jobs) = length job.legs + total jobs

-- the numbers of the first legs of jobs, of which the first has this one
abbrev firsts : ℕ → List JobPlan → List ℕ
firsts n [] = []
firsts n (job ∷ jobs) = n ∷ firsts (n + length job.legs) jobs

firsts-both : (n : ℕ) (xs ys : List JobPlan) → firsts n (xs ++ ys) ≡ firsts n xs ++ firsts (n + total xs) ys
firsts-both n [] ys = let none : n ≡ n + 0 = omega arith in ap (λ m. firsts m ys) none
firsts-both n (x ∷ xs) ys =
    let same : n + length x.legs + total xs ≡ n + (length x.legs + total xs) = omega arith in
    ap (λ ns. n ∷ ns) (firsts-both (n + length x.legs) xs ys) ∙ ap (λ m. n ∷ (firsts (n + length x.legs) xs ++ firsts m ys)) same

first_there : (n : ℕ) (jobs : List JobPlan) (j : ℕ) → j < length jobs → slice_get (firsts n jobs) j ≡ Some (n + planned_before j jobs)
first_there n [] j within = absurd (omega (arith, within))
first_there n (job ∷ jobs) zero within = let none : n ≡ n + 0 = omega arith in ap (λ m. Some m) none
first_there n (job ∷ jobs) (suc j) within =
    let same : n + length job.legs + planned_before j jobs ≡ n + (length job.legs + planned_before j jobs) = omega arith in
    first_there (n + length job.legs) jobs j (omega (arith, within)) ∙ ap (λ m. Some m) same

noted_firsts : Notes → List ℕ
noted_firsts notes = map (λ (job : JobNotes). job.first_leg) notes.jobs

added_legs : (notes : Notes) (job : JobPlan) → length (spec.job_added notes job).legs ≡ length notes.legs + length job.legs
added_legs notes job =
    length-append notes.legs (map (λ leg. spec.new_leg_notes) job.legs) ∙ ap (λ n. length notes.legs + n) (length-map job.legs (λ leg. spec.new_leg_notes))

added_jobs : (notes : Notes) (job : JobPlan) → noted_firsts (spec.job_added notes job) ≡ noted_firsts notes ++ length notes.legs ∷ []
unfolding noted_firsts
added_jobs notes job = map-append (λ (x : JobNotes). x.first_leg) notes.jobs ((record { last = None; first_leg = length notes.legs }) ∷ [])

jobs_legs : (notes : Notes) (jobs : List JobPlan) → length (spec.jobs_added notes jobs).legs ≡ length notes.legs + total jobs
jobs_legs notes [] = let none : length notes.legs ≡ length notes.legs + 0 = omega arith in none
jobs_legs notes (job ∷ jobs) =
    let more = added_legs notes job in
    let same : length notes.legs + length job.legs + total jobs ≡ length notes.legs + (length job.legs + total jobs) = omega arith in
    jobs_legs (spec.job_added notes job) jobs ∙ ap (λ n. n + total jobs) more ∙ same

jobs_firsts : (notes : Notes) (jobs : List JobPlan) → noted_firsts (spec.jobs_added notes jobs) ≡ noted_firsts notes ++ firsts (length notes.legs) jobs
jobs_firsts notes [] = sym (append-nil (noted_firsts notes))
jobs_firsts notes (job ∷ jobs) =
    jobs_firsts (spec.job_added notes job) jobs
    ∙ ap (λ ns. ns ++ firsts (length (spec.job_added notes job).legs) jobs) (added_jobs notes job)
    ∙ ap (λ n. (noted_firsts notes ++ length notes.legs ∷ []) ++ firsts n jobs) (added_legs notes job)
    ∙ append_assoc (noted_firsts notes) (length notes.legs ∷ []) (firsts (length notes.legs + length job.legs) jobs)

with_run : Notes → Notes
with_run notes = record notes { runs = notes.runs ++ spec.new_run_notes ∷ [] }

runs_firsts : (notes : Notes) (runs : List RunPlan)
    → noted_firsts (spec.runs_added notes runs) ≡ noted_firsts notes ++ firsts (length notes.legs) (flat_map (λ (run : RunPlan). run.jobs) runs)
unfolding with_run noted_firsts
runs_firsts notes [] = sym (append-nil (noted_firsts notes))
runs_firsts notes (run ∷ runs) =
    let others = flat_map (λ (x : RunPlan). x.jobs) runs in
    runs_firsts (spec.run_added notes run) runs
    ∙ ap (λ ns. ns ++ firsts (length (spec.run_added notes run).legs) others) (jobs_firsts (with_run notes) run.jobs)
    ∙ ap (λ n. (noted_firsts notes ++ firsts (length notes.legs) run.jobs) ++ firsts n others) (jobs_legs (with_run notes) run.jobs)
    ∙ append_assoc (noted_firsts notes) (firsts (length notes.legs) run.jobs) (firsts (length notes.legs + total run.jobs) others)
    ∙ ap (λ ns. noted_firsts notes ++ ns) (sym (firsts-both (length notes.legs) run.jobs others))

-- what is noted of the first leg of a job
first_noted : Notes → ℕ → Option ℕ
first_noted notes j = option_map (λ (job : JobNotes). job.first_leg) (slice_get notes.jobs j)

new_first : (p : Plan) (j : ℕ) → j < length (plan_jobs p) → first_noted (new_notes p) j ≡ Some (planned_before j (plan_jobs p))
unfolding first_noted noted_firsts
new_first p j within =
    let none : 0 + planned_before j (plan_jobs p) ≡ planned_before j (plan_jobs p) = omega arith in
    sym (slice_get-map (λ (job : JobNotes). job.first_leg) (new_notes p).jobs j)
    ∙ ap (λ ns. slice_get ns j) (runs_firsts (record { runs = []; jobs = []; legs = [] }) p.runs)
    ∙ first_there 0 (plan_jobs p) j within
    ∙ ap (λ n. Some n) none

-- ---- it stays

noted_keeps : (line : ℕ) (notes : Notes) (c : Change) (j : ℕ) → first_noted (noted line notes c) j ≡ first_noted notes j
unfolding first_noted
noted_keeps line notes (Change.Member (Member.Run r) fact) j = refl
noted_keeps line notes (Change.Member (Member.Leg l) fact) j = refl
noted_keeps line notes (Change.Job k fact) j =
    map-get-kept (λ (job : JobNotes). job.first_leg) notes.jobs k (λ job. record job { last = Some (record { line = line; fact = fact }) }) j (λ job. refl)
noted_keeps line notes (Change.Called l) j = refl
noted_keeps line notes (Change.Step l fact) j = refl
noted_keeps line notes (Change.Stop (Member.Run r) teller) j = refl
noted_keeps line notes (Change.Stop (Member.Leg l) teller) j = refl

all_keep : (line : ℕ) (notes : Notes) (cs : List Change) (j : ℕ) → first_noted (all_noted line notes cs) j ≡ first_noted notes j
all_keep line notes [] j = refl
all_keep line notes (c ∷ cs) j = all_keep line (noted line notes c) cs j ∙ noted_keeps line notes c j

record_keeps : (line : ℕ) (p : Plan) (b : Board) (notes : Notes) (es : List Entry) (a : Account) (j : ℕ) → account_from line p b notes es ≡ Some a
    → first_noted a.notes j ≡ first_noted notes j
record_keeps line p b notes [] a j h = ap (λ (x : Account). first_noted x.notes j) (sym (same_some (record { plan = p; board = b; notes = notes }) a h))
record_keeps line p b notes (e ∷ es) a j h =
    step (row p b e.worker e.event)
    (λ next k. record_keeps (suc line) p next (entry_noted line p b notes e) es a j k ∙ all_keep line notes (changes p b e.event) j) h
  where
    step : (r : Row) → ((next : Board) → account_from (suc line) p next (entry_noted line p b notes e) es ≡ Some a → first_noted a.notes j ≡ first_noted notes j)
        → then_account r (λ next. account_from (suc line) p next (entry_noted line p b notes e) es) ≡ Some a → first_noted a.notes j ≡ first_noted notes j
    step (Ok x) later k = later x.0 k
    step (Err f) later k = cc

-- ---- on a board of the plan's shape

same_before : (plans : List JobPlan) (jobs : List Job) (j : ℕ) → AllZip JobShape plans jobs → planned_before j plans ≡ before j jobs
same_before plans jobs zero h = refl
same_before [] [] (suc j) h = refl
same_before [] (x ∷ xs) (suc j) h = absurd h
same_before (q ∷ ps) [] (suc j) h = absurd h
same_before (q ∷ ps) (x ∷ xs) (suc j) h =
    let size : length x.legs ≡ length q.legs = h.0.legs in
    let others = same_before ps xs j h.1 in omega (arith, size, others)

jobs_beside : (plans : List RunPlan) (runs : List Run) → AllZip RunShape plans runs
    → AllZip JobShape (flat_map (λ (x : RunPlan). x.jobs) plans) (flat_map (λ (x : Run). x.jobs) runs)
jobs_beside [] [] h = tt
jobs_beside [] (x ∷ xs) h = absurd h
jobs_beside (q ∷ ps) [] h = absurd h
jobs_beside (q ∷ ps) (x ∷ xs) h =
    zip-append JobShape q.jobs (flat_map (λ (y : RunPlan). y.jobs) ps) x.jobs (flat_map (λ (y : Run). y.jobs) xs) h.0 (jobs_beside ps xs h.1)

told : (o : Option JobNotes) (n : ℕ) → option_map (λ (job : JobNotes). job.first_leg) o ≡ Some n → first_leg o ≡ n
told None n h = absurd (no_some n h)
told (Some x) n h = same_some x.first_leg n h

pub first_leg_is : (p : Plan) (es : List Entry) (a : Account) (j : ℕ) (job : Job) → account_of p es ≡ Some a → HasShape p a.board
    → slice_get (board_jobs a.board) j ≡ Some job → first_leg (slice_get a.notes.jobs j) ≡ before j (board_jobs a.board)
unfolding first_noted
first_leg_is p es a j job account shape at =
    let size = (has_as_many p a.board shape).jobs in
    let less = slice_get_within (board_jobs a.board) j job at in
    let within : j < length (plan_jobs p) = omega (arith, size, less) in
    told (slice_get a.notes.jobs j) (before j (board_jobs a.board))
    (record_keeps 2 p (new_board p) (new_notes p) es a j account ∙ new_first p j within
    ∙ ap (λ n. Some n) (same_before (plan_jobs p) (board_jobs a.board) j (jobs_beside p.runs a.board.runs shape)))
