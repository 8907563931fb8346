-- A run on a quiet board beside what is settled of it.
use Rattle.std.proofs.Common.{◌≡◌, ◌↔◌, ℕ, zero, suc, ◌+◌, ◌-◌, ◌<◌, ◌≤◌, ◌&&◌, Bool, true, false, List, [], ◌∷◌, ◌++◌, Some, option_map, length, map, take, drop, slice_get, nat_le, nat_lt, IsTrue, ap, subst, subst₂, sym, refl, ◌∙◌, arith, take_all}
use Rattle.board_settled.specs.Words.{AllZip, Answers, Board, Each, InPlay, IsJobOf, IsQuiet, Job, JobAt, JobFits, JobIsSettled, JobPlan, JobShape, NeedsPointBack, Plan, Run, RunAt, RunFits, RunIsSettled, RunShape, RunStands, RunState, SeesSettled, SettledJob, SettledRun, StandsAfterNeeds, ended_in_order, first_job, job_settled, jobs_come_to, leg_count, quiet_run, run_at, run_result, run_settled, runs_from}
use Rattle.std.proofs.lemmas.Bool.{true≢false, le-leb}
use Rattle.std.proofs.lemmas.List.{take_more}
use Rattle.std.proofs.lemmas.Option.{slice_get_within, get_or_from_slice_get}
use Rattle.board_settled.proofs.Comes.{job_comes}
use Rattle.board_settled.proofs.Needs.{ComesAt, IsOrdered, board_sees_settled, each_result, jobs_result}
use Rattle.board_settled.proofs.Played.{is_ordered, jobs_of, jobs_size, job_item}
use Rattle.board_settled.proofs.Lists.{get-take, all-of, mapped_from}
use Rattle.board_settled.proofs.Loops.{zip-first}
use Rattle.board_settled.proofs.Numbers.{before_job, count-cons}
use Rattle.flow_model.proofs.Places.{slice_get_there}
use Rattle.status_table.proofs.Counts.{zip-left}
use Rattle.status_table.proofs.Found.{run_stands}
use Rattle.status_table.proofs.Lists.{zip-get, zip-length, zip-append}
use Rattle.board_decisions.proofs.Lists.{and-both, same_some, no_some}
use Rattle.status_table.proofs.Standings.{drop_at}

-- some jobs of a run are settled
abbrev pub JobsAreSettled : List SettledJob → List Job → Type 0
JobsAreSettled given jobs = AllZip (λ given job. JobIsSettled given job.legs job.state) given jobs

-- ---- lists

take-more : {A : Type 0} (xs : List A) (i : ℕ) (x : A) → slice_get xs i ≡ Some x → take (i + 1) xs ≡ take i xs ++ x ∷ []
take-more {A} xs i x is = take_more xs i x (slice_get_within xs i x is) ∙ ap (λ (y : A). take i xs ++ y ∷ []) (get_or_from_slice_get xs i x x is)

-- ---- the numbers of legs

before-more : (jobs : List JobPlan) (i : ℕ) (job : JobPlan) → slice_get jobs i ≡ Some job → before_job (i + 1) jobs ≡ before_job i jobs + length job.legs
before-more jobs i job is = let next : i + 1 ≡ suc i = omega arith in ap (λ n. before_job n jobs) next ∙ by jobs i is
  where
    by : (js : List JobPlan) (k : ℕ) → slice_get js k ≡ Some job → before_job (suc k) js ≡ before_job k js + length job.legs
    by [] k h = absurd (no_some job h)
    by (j ∷ js) zero h = let same = ap (λ (x : JobPlan). length x.legs) (same_some j job h) in omega (arith, same)
    by (j ∷ js) (suc k) h = let later = by js k h in omega (arith, later)

before-all : (jobs : List JobPlan) (n : ℕ) → length jobs ≤ n → before_job n jobs ≡ leg_count jobs
before-all [] zero h = refl
before-all [] (suc n) h = refl
before-all (j ∷ js) zero h = absurd (omega (arith, h))
before-all (j ∷ js) (suc n) h =
    let later = before-all js n (omega (arith, h)) in
    let all = count-cons j js in
    omega (arith, later, all)

-- ---- a run

module _ {r : ℕ} {at : RunAt} (stands : RunStands r at) (back : NeedsPointBack) where
  abbrev p : Plan
  p = stands.whole

  ordered : IsOrdered (first_job p r) at.plan.jobs
  ordered = is_ordered back p stands.board.rules r at.plan stands.planned

  shape_here : AllZip JobShape at.plan.jobs at.run.jobs
  shape_here = zip-get RunShape p.runs at.board.runs r at.plan at.run stands.planned stands.in_board stands.board.shape

  fits_here : AllZip (JobFits at.run.state at.run.group) at.plan.jobs at.run.jobs
  fits_here = zip-get RunFits p.runs at.board.runs r at.plan at.run stands.planned stands.in_board stands.board.fits

  -- ---- the next job

  module _ {j : ℕ} {x : JobAt} (found : IsJobOf r j at x) where
    pub size_job : length x.job.legs ≡ length x.plan.legs
    size_job = (zip-get JobShape at.plan.jobs at.run.jobs j x.plan x.job found.planned found.there shape_here).legs

    -- it stands after all that it needs
    pub stands_job : (n : ℕ) → n ≡ x.plan.number - j → StandsAfterNeeds n x
    stands_job n is = subst₂ StandsAfterNeeds (sym (is ∙ ordered.number j x.plan found.planned)) (sym found.is) (record {
      back = λ k job there. all-of (λ need. nat_le (first_job p r) need && nat_lt need (first_job p r + k)) job.needs (λ i need here.
          let both = (back p stands.board.rules r k at.plan job stands.planned there).1 i need here in
          and-both (nat_le (first_job p r) need) (nat_lt need (first_job p r + k)) (le-leb (first_job p r) need both.0) (le-leb (suc need) (first_job p r + k) both.1));
      within = slice_get_within at.plan.jobs j x.plan found.planned;
    })

    pub next_number : (first next : ℕ) → next ≡ first + before_job j at.plan.jobs → (more : ℕ) → more ≡ next + length x.job.legs → more ≡ first + before_job (j + 1) at.plan.jobs
    next_number first next next_is more is =
        let size = size_job in
        let before = before-more at.plan.jobs j x.plan found.planned in
        omega (arith, is, size, before, next_is)

  pub last_number : (n : ℕ) → length at.run.jobs ≤ n → (first next : ℕ) → next ≡ first + before_job n at.plan.jobs → next ≡ first + leg_count at.plan.jobs
  last_number n through first next is =
      let long = zip-length JobShape at.plan.jobs at.run.jobs shape_here in
      let count = before-all at.plan.jobs n (omega (arith, long, through)) in
      omega (arith, is, count)

  -- ---- what is settled of it

  module _ (answers : Answers) (first : ℕ) where
    abbrev all : List SettledJob
    all = jobs_of answers first at.plan

    sizes : length all ≡ length at.run.jobs
    sizes = jobs_size answers at.plan first [] at.plan.jobs ∙ zip-length JobShape at.plan.jobs at.run.jobs shape_here

    -- a job before a place, where all before it are settled
    comes_at : (j : ℕ) → JobsAreSettled (take j all) (take j at.run.jobs) → (i : ℕ) → i < j → i < length at.run.jobs → ComesAt at.board r at.plan at.run all i
    comes_at j h i less within =
        let (job, there) = slice_get_there at.run.jobs i within in
        let (plan, planned, shape) = zip-left JobShape at.plan.jobs at.run.jobs i job there shape_here in
        let given = job_settled answers at.plan (first + before_job i at.plan.jobs) (take i all) plan in
        let is_given : slice_get all i ≡ Some given = job_item answers at.plan first [] at.plan.jobs i plan planned in
        let settled = zip-get (λ given job. JobIsSettled given job.legs job.state) (take j all) (take j at.run.jobs) i given job
        (get-take all j i less ∙ is_given) (get-take at.run.jobs j i less ∙ there) h in
        record {
          job_plan = plan;
          job = job;
          is_planned = planned;
          is_there = there;
          given = given;
          is_given = is_given;
          comes = job_comes (record { shape = stands.board.shape; planned = stands.planned; in_board = stands.in_board; in_run = there }) stands.board.ends plan
              (zip-get (JobFits at.run.state at.run.group) at.plan.jobs at.run.jobs i plan job planned there fits_here) given settled;
        }

    module _ {j : ℕ} {x : JobAt} (there : IsJobOf r j at x) (n : ℕ) (n_is : n ≡ x.plan.number - j)
        (next : ℕ) (next_is : next ≡ first + before_job j at.plan.jobs) (so_far : JobsAreSettled (take j all) (take j at.run.jobs))
        (yes : Bool) (here : (before : List SettledJob) → SeesSettled n before x → IsTrue yes ↔ JobIsSettled (job_settled answers x.run_plan next before x.plan) x.job.legs x.job.state) where
      abbrev given : SettledJob
      given = job_settled answers at.plan (first + before_job j at.plan.jobs) (take j all) x.plan

      is_given : slice_get all j ≡ Some given
      is_given = job_item answers at.plan first [] at.plan.jobs j x.plan there.planned

      sees : SeesSettled n (take j all) x
      sees =
          let long = sizes in
          let less = slice_get_within at.run.jobs j x.job there.there in
          subst₂ (λ m y. SeesSettled m (take j all) y) (sym (n_is ∙ ordered.number j x.plan there.planned)) (sym there.is)
          (board_sees_settled at.board r (first_job p r) at.plan at.run all ordered j (λ i under. comes_at j so_far i under (omega (arith, under, less)))
          x.plan there.planned (omega (arith, long, less)) x.job)

      settled_here : IsTrue yes ↔ JobIsSettled given x.job.legs x.job.state
      settled_here = subst (λ (g : SettledJob). IsTrue yes ↔ JobIsSettled g x.job.legs x.job.state) (λ i. job_settled answers (there.is i).run_plan (next_is i) (take j all) x.plan) (here (take j all) sees)

      -- where it is not settled, neither is the run
      pub run_fails : yes ≡ false → RunIsSettled (run_settled answers first at.plan) at.run → ⊥
      unfolding run_settled
      run_fails no_job h =
          true≢false (sym (settled_here.1 (zip-get (λ g job. JobIsSettled g job.legs job.state) all at.run.jobs j given x.job is_given there.there h.jobs)) ∙ no_job)

      pub one_more_job : yes ≡ true → JobsAreSettled (take (j + 1) all) (take (j + 1) at.run.jobs)
      one_more_job is =
          subst₂ JobsAreSettled (sym (take-more all j given is_given)) (sym (take-more at.run.jobs j x.job there.there))
          (zip-append (λ g job. JobIsSettled g job.legs job.state) (take j all) (given ∷ []) (take j at.run.jobs) (x.job ∷ []) so_far (settled_here.0 is, tt))

    -- ---- all jobs

    module _ (n : ℕ) (through : length at.run.jobs ≤ n) (so_far : JobsAreSettled (take n all) (take n at.run.jobs)) where
      comes_to : (run_settled answers first at.plan).result ≡ Some (run_result at.run)
      unfolding run_settled
      comes_to =
          ap (option_map jobs_come_to) (each_result at.board r at.plan at.run all sizes (λ i under. comes_at n so_far i (omega (arith, under, through)) under))
          ∙ jobs_result at.run (stands.board.runs r at.run stands.in_board)

      pub run_comes : at.run.state ≡ RunState.Closed (run_result at.run) → RunIsSettled (run_settled answers first at.plan) at.run
      unfolding run_settled
      run_comes is =
          let long = sizes in
          record {
            jobs = subst₂ JobsAreSettled (take_all n all (omega (arith, long, through))) (take_all n at.run.jobs through) so_far;
            result = run_result at.run;
            state = is;
            given_result = comes_to;
          }

      pub only_closed : RunIsSettled (run_settled answers first at.plan) at.run → at.run.state ≡ RunState.Closed (run_result at.run)
      only_closed h = h.state ∙ ap (λ o. RunState.Closed o) (same_some h.result (run_result at.run) (sym h.given_result ∙ comes_to))

-- ---- the runs that are left

-- the next run, and those after it
pub left_run : (answers : Answers) (p : Plan) (b : Board) (first r : ℕ) (at : RunAt) → Some at ≡ run_at p b r
    → AllZip RunIsSettled (runs_from answers first (drop r p.runs)) (drop r b.runs)
    ↔ (RunIsSettled (run_settled answers first at.plan) at.run × AllZip RunIsSettled (runs_from answers (first + leg_count at.plan.jobs) (drop (r + 1) p.runs)) (drop (r + 1) b.runs))
left_run answers p b first r at found =
    let there = run_stands p b r at (sym found) in
    zip-first RunIsSettled _ _ _ _ _ at.run (ap (runs_from answers first) (drop_at p.runs r at.plan there.plan)) (drop_at b.runs r at.run there.run)

-- ---- the quiet copy of a board

-- what holds of the runs of a board, as far as that they are to stop is not told by it, holds of the copy, and only then
pub zip-quiet : {A : Type 0} (R : A → Run → Type 0) → ((x : A) (run : Run) → R x (quiet_run run) ↔ R x run) → (xs : List A) (runs : List Run) → AllZip R xs (map quiet_run runs) ↔ AllZip R xs runs
zip-quiet R alike [] [] = (λ h. h, λ h. h)
zip-quiet R alike (x ∷ xs) (run ∷ runs) =
    (λ h. ((alike x run).0 h.0, (zip-quiet R alike xs runs).0 h.1), λ h. ((alike x run).1 h.0, (zip-quiet R alike xs runs).1 h.1))
zip-quiet R alike xs runs = (λ h. absurd h, λ h. absurd h)

quiet_goes : (runs : List Run) → Each (λ run. run.stop ≡ false) (map quiet_run runs)
quiet_goes runs i run is = let (x, there, same) = mapped_from quiet_run runs i run is in ap (λ (y : Run). y.stop) (sym same)

pub quiet_settled : (given : SettledRun) (run : Run) → RunIsSettled given (quiet_run run) ↔ RunIsSettled given run
quiet_settled what run = (
  (λ h. record { jobs = h.jobs; result = h.result; state = h.state; given_result = h.given_result }),
  (λ h. record { jobs = h.jobs; result = h.result; state = h.state; given_result = h.given_result }),
)

pub is_quiet : (p : Plan) (b made : Board) → InPlay p b → made.runs ≡ map quiet_run b.runs → made.ends ≡ ended_in_order made → IsQuiet p made
is_quiet p b made in_play runs ends = record {
  rules = in_play.rules;
  shape = subst (AllZip RunShape p.runs) (sym runs) ((zip-quiet RunShape (λ x run. (λ h. h, λ h. h)) p.runs b.runs).1 in_play.shape);
  fits = subst (AllZip RunFits p.runs) (sym runs) ((zip-quiet RunFits (λ x run. (λ h. h, λ h. h)) p.runs b.runs).1 in_play.laws.fits);
  ends = ends;
  runs = subst (Each (λ run. run.stop ≡ false)) (sym runs) (quiet_goes b.runs);
}
