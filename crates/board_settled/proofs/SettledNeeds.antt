-- What a job looks at once all that it needs has ended: its context `needs` and its status are as settled.
use Rattle.std.proofs.Common.{◌≡◌, ℕ, suc, ◌+◌, ◌-◌, ◌&&◌, Bool, true, false, List, [], Option, Some, None, option_map, length, map, take, slice_get, nat_lt, ap, subst, sym, refl, ◌∙◌, arith}
use Rattle.board_settled.specs.Words.{AllZip, Answers, Board, Job, JobFits, JobPlan, JobShape, Plan, Run, RunFits, RunPlan, RunShape, SeesSettled, SettledJob, StepCall, all_given, first_job, holds, holds_at, is_closed, job_has_ended, job_results, job_settled, jobs_have_ended, list_all, needs_have_ended, result_of}
use Rattle.std.proofs.lemmas.Bool.{true≢false, leb-true}
use Rattle.std.proofs.lemmas.Option.{slice_get-map, slice_get_within}
use Rattle.board_decisions.proofs.Lists.{and-left, and-right, and-both, same_some}
use Rattle.status_table.proofs.Counts.{zip-left}
use Rattle.status_table.proofs.Lists.{zip-get, zip-length, all-get}
use Rattle.board_settled.proofs.Ends.{job_ended, is_over}
use Rattle.flow_model.proofs.Places.{slice_get_there}
use Rattle.board_settled.proofs.Lists.{all-of}
use Rattle.board_settled.proofs.Played.{IsFit, Stands, is_ordered, JobOver, jobs_of, RunPlayed, jobs_size, job_item}
use Rattle.board_settled.proofs.Needs.{ComesAt, IsOrdered, Reached, each_result, ready_at, sees_settled}
use Rattle.board_settled.proofs.Numbers.{before_run, before_job}
use Rattle.board_settled.proofs.Outputs.{JobThere}

some_got : {A : Type 0} (f : A → Bool) (o : Option A) → holds (option_map f o) ≡ true → (x : A) × (o ≡ Some x) × (f x ≡ true)
some_got f None h = absurd (true≢false (sym h))
some_got f (Some x) h = (x, refl, h)

both-all : {A : Type 0} (s t : A → Bool) (xs : List A) → list_all s xs ≡ true → list_all t xs ≡ true → list_all (λ x. s x && t x) xs ≡ true
both-all s t xs h k = all-of (λ x. s x && t x) xs (λ i x at. and-both (s x) (t x) (all-get s xs i x at h) (all-get t xs i x at k))

-- a run in play that is not Closed
module _ {p : Plan} (fit : IsFit p) {answers : Answers} {calls : ℕ → Option StepCall} {b : Board} (stands : Stands p answers calls b) (r : ℕ) (plan : RunPlan) (run : Run)
    (planned : slice_get p.runs r ≡ Some plan) (in_board : slice_get b.runs r ≡ Some run) (unclosed : is_closed run.state ≡ false) where
  abbrev pub first : ℕ
  first = first_job p r

  abbrev pub settled_jobs : List SettledJob
  settled_jobs = jobs_of answers (before_run r p.runs) plan

  abbrev ended : List Bool
  ended = map (job_has_ended run) run.jobs

  -- a job that has ended, at its place
  record EndedAt (i : ℕ) : Type 0 where
    at : ComesAt b r plan run settled_jobs i
    over : JobOver at.job

  pub ordered : IsOrdered (first_job p r) plan.jobs
  ordered = is_ordered fit.back p fit.rules r plan planned

  played : RunPlayed answers (before_run r p.runs) plan calls run
  played = stands.played r plan run planned in_board

  shape_here : AllZip JobShape plan.jobs run.jobs
  shape_here = zip-get RunShape p.runs b.runs r plan run planned in_board stands.fits.shape

  ended_at : (i : ℕ) → holds_at ended i ≡ true → EndedAt i
  ended_at i h =
      let (job, in_run, has) = some_got (job_has_ended run) (slice_get run.jobs i) (ap holds (sym (slice_get-map (job_has_ended run) run.jobs i)) ∙ h) in
      let (job_plan, is_planned, same) = zip-left JobShape plan.jobs run.jobs i job in_run shape_here in
      let fits = zip-get (JobFits run.state run.group) plan.jobs run.jobs i job_plan job is_planned in_run (zip-get RunFits p.runs b.runs r plan run planned in_board stands.lawful.fits) in
      let job_played = played.jobs i job_plan job is_planned in_run in
      let free = (fit.free r plan planned).jobs i job_plan is_planned in
      let there : JobThere p b (record { run = r; job = i }) plan run job = record { shape = stands.fits.shape; planned = planned; in_board = in_board; in_run = in_run } in
      let starts = before_run r p.runs + before_job i plan.jobs in
      record {
        at = record {
          job_plan = job_plan;
          job = job;
          is_planned = is_planned;
          is_there = in_run;
          given = job_settled answers plan starts (take i settled_jobs) job_plan;
          is_given = job_item answers plan (before_run r p.runs) [] plan.jobs i job_plan is_planned;
          comes = job_ended there stands.fits.ends unclosed answers (take i settled_jobs) starts job_plan calls same.legs fits.some free job_played has;
        };
        over = is_over there stands.fits.ends unclosed answers (take i settled_jobs) starts job_plan calls same.legs fits.some free job_played has;
      }

  -- what a job needs stands before it and has ended
  abbrev ready : ℕ → ℕ → Bool
  ready k i = holds_at ended i && nat_lt i k

  needs_ready : (j : ℕ) (job : JobPlan) → slice_get plan.jobs j ≡ Some job → needs_have_ended (job.number - j) run job ≡ true → list_all (λ need. ready j (need - first)) job.needs ≡ true
  needs_ready j job is h =
      both-all (λ need. holds_at ended (need - first)) (λ need. nat_lt (need - first) j) job.needs
      (ap (λ n. needs_have_ended n run job) (sym (ordered.number j job is)) ∙ h) (ordered.needs j job is)

  reached : (k i : ℕ) → ready k i ≡ true → Reached b r first plan run settled_jobs ready k i
  reached k i ok =
      let it = ended_at i (and-left (holds_at ended i) (nat_lt i k) ok) in
      let at = it.at in
      record {
        less = leb-true (suc i) k (and-right (holds_at ended i) (nat_lt i k) ok);
        at = at;
        further = ready_at (ready i) first plan.jobs i at.job_plan at.is_planned (needs_ready i at.job_plan at.is_planned (played.needs i at.job_plan at.job at.is_planned at.is_there it.over.judged));
      }

  -- ---- a run whose jobs have ended

  ended_there : jobs_have_ended run ≡ true → (i : ℕ) (job : Job) → slice_get run.jobs i ≡ Some job → EndedAt i
  ended_there all i job is =
      ended_at i (ap holds (slice_get-map (job_has_ended run) run.jobs i ∙ ap (option_map (job_has_ended run)) is) ∙ all-get (job_has_ended run) run.jobs i job is all)

  sizes : length settled_jobs ≡ length run.jobs
  sizes = jobs_size answers plan (before_run r p.runs) [] plan.jobs ∙ zip-length JobShape plan.jobs run.jobs shape_here

  pub each_given : jobs_have_ended run ≡ true → all_given (map result_of settled_jobs) ≡ Some (job_results run)
  each_given all = each_result b r plan run settled_jobs sizes (λ i under. let job = slice_get_there run.jobs i under in (ended_there all i job.0 job.1).at)

  pub each_over : jobs_have_ended run ≡ true → (j : ℕ) (job : Job) → slice_get run.jobs j ≡ Some job → JobOver job
  each_over all j job is =
      let it = ended_there all j job is in
      subst JobOver (same_some it.at.job job (sym it.at.is_there ∙ is)) it.over

  -- what a job sees whose needs have ended
  pub needs_settled : (j : ℕ) (job : JobPlan) → slice_get plan.jobs j ≡ Some job → needs_have_ended (job.number - j) run job ≡ true → (x : Job)
      → SeesSettled first (take j settled_jobs) (record { board = b; place = record { run = r; job = j }; run_plan = plan; plan = job; run = run; job = x })
  needs_settled j job is h x =
      let all = jobs_size answers plan (before_run r p.runs) [] plan.jobs in
      let within = slice_get_within plan.jobs j job is in
      sees_settled b r first plan run settled_jobs j ready (λ k i le. reached k i) job is (omega (arith, all, within)) (ordered.number j job is) (needs_ready j job is h) x
