-- What a job looks at, where each job that it needs, and each that one of these needs, comes to what is settled: its context `needs`
-- and its status are as settled.
use Rattle.std.proofs.Common.{◌≡◌, ℕ, zero, suc, ◌-◌, ◌<◌, ◌≤◌, ◌||◌, Bool, true, false, not, List, [], ◌∷◌, Option, Some, option_map, length, map, take, slice_get, nat_lt, is_some, ap, sym, ◌∙◌, refl, arith}
use Rattle.board_settled.specs.Words.{Board, Job, JobAt, JobPlan, Outcome, Plain, Run, RunPlan, SeesSettled, SettledJob, all_given, ancestors_status, any_ancestor, first_in_run, has_result, holds, holds_at, is_cancelled, is_failure, job_result, job_results, jobs_come_to, laid_over, list_all, need_at, need_pair, needed_job, needs_at, needs_given, needs_of, needs_value, object, places_needed, result_of, result_passes, run_result, some_ancestor, status_after, status_by, worst}
use Rattle.std.proofs.lemmas.Bool.{leb-true}
use Rattle.std.proofs.lemmas.List.{length-take-le, length-map}
use Rattle.std.proofs.lemmas.Option.{slice_get-map, slice_get_within}
use Rattle.status_table.specs.Words.{is_success}
use Rattle.board_settled.proofs.Comes.{JobComes}
use Rattle.status_table.proofs.Counts.{all-weaker}
use Rattle.board_settled.proofs.Lists.{get-take, any-where, any-map, map-filter_map, filter_map-where}
use Rattle.std.proofs.lemmas.List.Folds.{list_all-map}
use Rattle.board_decisions.proofs.Lists.{map-get, same_some}

-- the jobs of a run are numbered from the first on, and need only jobs of it that stand before them
pub record IsOrdered (first : ℕ) (jobs : List JobPlan) : Type 0 where
  pub number : (j : ℕ) (plan : JobPlan) → slice_get jobs j ≡ Some plan → plan.number - j ≡ first
  pub needs : (j : ℕ) (plan : JobPlan) → slice_get jobs j ≡ Some plan → list_all (λ need. nat_lt (need - first) j) plan.needs ≡ true

-- a job that comes to what is settled, at its place
pub record ComesAt (b : Board) (r : ℕ) (plan : RunPlan) (run : Run) (all : List SettledJob) (i : ℕ) : Type 0 where
  pub job_plan : JobPlan
  pub job : Job
  pub is_planned : slice_get plan.jobs i ≡ Some job_plan
  pub is_there : slice_get run.jobs i ≡ Some job
  pub given : SettledJob
  pub is_given : slice_get all i ≡ Some given
  pub comes : JobComes b (record { run = r; job = i }) run given job

-- a place that the job at another needs stands before it and comes to what is settled, and so do those that are needed there
pub record Reached (b : Board) (r first : ℕ) (plan : RunPlan) (run : Run) (all : List SettledJob) (ready : ℕ → ℕ → Bool) (k i : ℕ) : Type 0 where
  pub less : i < k
  pub at : ComesAt b r plan run all i
  pub further : list_all (ready i) (needs_at first plan.jobs i) ≡ true

-- what holds of all that a job needs, of their places
pub ready_at : (ready : ℕ → Bool) (first : ℕ) (jobs : List JobPlan) (i : ℕ) (job : JobPlan) → slice_get jobs i ≡ Some job → list_all (λ need. ready (need - first)) job.needs ≡ true
    → list_all ready (needs_at first jobs i) ≡ true
ready_at ready first jobs i job is h = ap (λ o. list_all ready (places_needed first o)) is ∙ list_all-map ready (λ need. need - first) job.needs ∙ h

module _ (b : Board) (r first : ℕ) (plan : RunPlan) (run : Run) (all : List SettledJob) (j : ℕ) (ready : ℕ → ℕ → Bool)
    (reached : (k i : ℕ) → k ≤ j → ready k i ≡ true → Reached b r first plan run all ready k i) where
  abbrev before : List SettledJob
  before = take j all

  module _ (test : Outcome → Bool) where
    abbrev shown : List Bool
    shown = map test (job_results run)

    abbrev settled : List Bool
    settled = map (result_passes test) before

    same_test : (i : ℕ) → i < j → ComesAt b r plan run all i → holds_at shown i ≡ holds_at settled i
    same_test i under at =
        ap holds (map-get test (job_results run) i (job_result run at.job) (map-get (job_result run) run.jobs i at.job at.is_there))
        ∙ sym (ap holds (map-get (result_passes test) before i at.given (get-take all j i under ∙ at.is_given)) ∙ ap (λ o. holds (option_map test o)) at.comes.result)

    -- ancestors come to the same
    ancestors : (n k : ℕ) → k ≤ j → list_all (ready k) (needs_at first plan.jobs k) ≡ true → some_ancestor first plan.jobs shown n k ≡ some_ancestor first plan.jobs settled n k
    ancestors zero k le h = refl
    ancestors (suc n) k le h =
        any-where (ready k) (λ i. holds_at shown i || some_ancestor first plan.jobs shown n i) (λ i. holds_at settled i || some_ancestor first plan.jobs settled n i) (needs_at first plan.jobs k) (λ i ok.
        let there = reached k i le ok in
        let less = there.less in
        let same = same_test i (omega (arith, le, less)) there.at in
        let so_far = ancestors n i (omega (arith, le, less)) there.further in
        λ t. same t || so_far t) h

  -- ---- the job at the place

  within : j ≤ j
  within = omega arith

  module _ (job : JobPlan) (is : slice_get plan.jobs j ≡ Some job) (long : j ≤ length all) (number : job.number - j ≡ first) (all_ready : list_all (λ need. ready j (need - first)) job.needs ≡ true) where
    size : length before ≡ j
    size = length-take-le j all long

    first_is : first_in_run job before ≡ first
    first_is = ap (λ n. job.number - n) size ∙ number

    are_given : needs_given before job ≡ true
    are_given = all-weaker (λ need. ready j (need - first)) (λ need. holds_at (map has_result before) (need - first_in_run job before)) one job.needs all_ready
      where
        one : (need : ℕ) → ready j (need - first) ≡ true → holds_at (map has_result before) (need - first_in_run job before) ≡ true
        one need ok =
            let there = reached j (need - first) within ok in
            ap (λ n. holds_at (map has_result before) (need - n)) first_is
            ∙ ap holds (map-get has_result before (need - first) there.at.given (get-take all j (need - first) there.less ∙ there.at.is_given))
            ∙ ap is_some there.at.comes.result

    abbrev at : Job → JobAt
    at x = record { board = b; place = record { run = r; job = j }; run_plan = plan; plan = job; run = run; job = x }

    needs_same : (x : Job) → needs_value (at x) ≡ needs_of plan before job
    unfolding needs_value needs_of
    needs_same x =
        ap (λ (ps : List (List ℕ × Plain)). object (laid_over ps []))
        (map-filter_map need_pair (needed_job (at x)) job.needs
        ∙ filter_map-where (λ need. ready j (need - first)) (λ need. option_map need_pair (needed_job (at x) need)) (λ need. need_at plan before (need - first_in_run job before)) job.needs one all_ready)
      where
        one : (need : ℕ) → ready j (need - first) ≡ true → option_map need_pair (needed_job (at x) need) ≡ need_at plan before (need - first_in_run job before)
        one need ok =
            let there = reached j (need - first) within ok in
            let it = there.at in
            let found : needed_job (at x) need ≡ Some (record { board = b; place = record { run = r; job = need - first }; run_plan = plan; plan = it.job_plan; run = run; job = it.job }) =
            rw (number, it.is_planned, it.is_there) refl in
            ap (option_map need_pair) found
            ∙ sym (ap (λ n. need_at plan before (need - n)) first_is
            ∙ rw (it.is_planned, get-take all j (need - first) there.less, it.is_given, it.comes.result, it.comes.outputs) refl)

    status_same : ancestors_status first plan.jobs (job_results run) j ≡ status_after plan before job
    status_same = λ i. status_by (one is_failure i) (one (λ result. not (is_success result)) i)
      where
        one : (test : Outcome → Bool) → any_ancestor first plan.jobs (map test (job_results run)) j
            ≡ any_ancestor (first_in_run job before) plan.jobs (map (result_passes test) before) (length before)
        one test =
            ancestors test (length plan.jobs) j within (ready_at (ready j) first plan.jobs j job is all_ready)
            ∙ λ i. some_ancestor (sym first_is i) plan.jobs (map (result_passes test) before) (length plan.jobs) (sym size i)

    pub sees_settled : (x : Job) → SeesSettled first before (at x)
    sees_settled x = record { given = are_given; needs = needs_same x; status = status_same }

-- ---- a job all before which come to what is settled

module _ (b : Board) (r first : ℕ) (plan : RunPlan) (run : Run) (all : List SettledJob) (ordered : IsOrdered first plan.jobs) (j : ℕ)
    (each : (i : ℕ) → i < j → ComesAt b r plan run all i) where
  reached : (k i : ℕ) → k ≤ j → nat_lt i k ≡ true → Reached b r first plan run all (λ k i. nat_lt i k) k i
  reached k i le ok =
      let less : i < k = leb-true (suc i) k ok in
      let at = each i (omega (arith, le, less)) in
      record { less = less; at = at; further = ready_at (λ n. nat_lt n i) first plan.jobs i at.job_plan at.is_planned (ordered.needs i at.job_plan at.is_planned) }

  pub board_sees_settled : (job : JobPlan) → slice_get plan.jobs j ≡ Some job → j ≤ length all → (x : Job)
      → SeesSettled first (take j all) (record { board = b; place = record { run = r; job = j }; run_plan = plan; plan = job; run = run; job = x })
  board_sees_settled job is long x = sees_settled b r first plan run all j (λ k i. nat_lt i k) reached job is long (ordered.number j job is) (ordered.needs j job is) x

-- ---- a run all of whose jobs come to what is settled

all-given : {A : Type 0} (xs : List (Option A)) (ys : List A) → length xs ≡ length ys → ((i : ℕ) (y : A) → slice_get ys i ≡ Some y → slice_get xs i ≡ Some (Some y)) → all_given xs ≡ Some ys
all-given [] [] same h = refl
all-given {A} (x ∷ xs) (y ∷ ys) same h =
    let here : x ≡ Some y = same_some x (Some y) (h 0 y refl) in
    ap (λ (o : Option A). all_given (o ∷ xs)) here ∙ ap (option_map (λ (zs : List A). y ∷ zs)) (all-given xs ys (omega (arith, same)) (λ i z is. h (suc i) z is))
all-given xs ys same h = absurd (omega (arith, same))

pub each_result : (b : Board) (r : ℕ) (plan : RunPlan) (run : Run) (all : List SettledJob) → length all ≡ length run.jobs
    → ((i : ℕ) → i < length run.jobs → ComesAt b r plan run all i) → all_given (map result_of all) ≡ Some (job_results run)
each_result b r plan run all long each = all-given (map result_of all) (job_results run) (length-map all result_of ∙ long ∙ sym (length-map run.jobs (job_result run))) one
  where
    one : (i : ℕ) (y : Outcome) → slice_get (job_results run) i ≡ Some y → slice_get (map result_of all) i ≡ Some (Some y)
    one i y h =
        let within = slice_get_within (job_results run) i y h in
        let size = length-map run.jobs (job_result run) in
        let at = each i (omega (arith, within, size)) in
        slice_get-map result_of all i ∙ ap (option_map result_of) at.is_given
        ∙ ap (λ (o : Option Outcome). Some o) (at.comes.result ∙ sym (ap (option_map (job_result run)) at.is_there) ∙ sym (slice_get-map (job_result run) run.jobs i) ∙ h)

-- what they come to, where the run is not told to stop
pub jobs_result : (run : Run) → run.stop ≡ false → Some (jobs_come_to (job_results run)) ≡ Some (run_result run)
jobs_result run goes = λ i. Some (worst (any-map is_failure (job_result run) run.jobs i) (sym goes i || any-map is_cancelled (job_result run) run.jobs i))
