-- One change of a run, of a job or of a leg, after which all is played as settled.
use Rattle.std.proofs.Common.{◌≡◌, ◌≢◌, ℕ, ◌+◌, ◌-◌, true, false, List, Option, Some, None, take, slice_get, ap, subst, sym, refl, ◌∙◌}
use Rattle.std.proofs.lemmas.Bool.{true≢false}
use Rattle.std.proofs.lemmas.Option.{slice_get_within}
use Rattle.board_settled.specs.Words.{Answers, Board, HasShape, Job, JobPlan, Leg, LegPlace, Outcome, Plan, Run, RunPlan, RunState, RunStays, SettledJob, Stays, StepCall, changed, is_closed, is_open, leg_place, needs_have_ended, needs_of, run_after, spot_at, with_leg}
use Rattle.status_table.proofs.Ended.{needs-later}
use Rattle.status_table.proofs.Lists.{changed-there, zip-get}
use Rattle.board_decisions.proofs.Lists.{same_some}
use Rattle.board_settled.proofs.Lists.{each-changed}
use Rattle.board_settled.proofs.Numbers.{before_run, before_job, leg_spot, place_at}
use Rattle.board_settled.proofs.Played.{is_judged, LegPlayed, JobPlayed, JobPlayedAt, JobOver, jobs_of, RunPlayed, Played}

-- ---- other calls

-- two ways in which calls are open are the same but at a leg
abbrev pub SameBut : Plan → Board → LegPlace → (ℕ → Option StepCall) → (ℕ → Option StepCall) → Type 0
SameBut p b at calls later =
    (r j k : ℕ) (plan : RunPlan) (run : Run) (job : Job) (leg : Leg) → slice_get p.runs r ≡ Some plan → slice_get b.runs r ≡ Some run → slice_get run.jobs j ≡ Some job
    → slice_get job.legs k ≡ Some leg → leg_spot r j k ≢ at → calls (before_run r p.runs + before_job j plan.jobs + k) ≡ later (before_run r p.runs + before_job j plan.jobs + k)

-- they are, where they are at each other number
pub same_but : (p : Plan) (b : Board) (l : ℕ) (at : LegPlace) (calls later : ℕ → Option StepCall) → HasShape p b → leg_place b l ≡ Some at → ((n : ℕ) → n ≢ l → calls n ≡ later n)
    → SameBut p b at calls later
same_but p b l at calls later shape found others r j k plan run job leg planned in_board in_run in_job differs = others (before_run r p.runs + before_job j plan.jobs + k) (λ same.
    let place = place_at p b r j k plan run job shape planned in_board in_run (slice_get_within job.legs k leg in_job) in
    differs (same_some (leg_spot r j k) at (sym place ∙ ap (leg_place b) same ∙ found)))

job_calls : (answers : Answers) (run : RunPlan) (before : List SettledJob) (first : ℕ) (plan : JobPlan) (calls new : ℕ → Option StepCall) (job : Job)
    → ((k : ℕ) (leg : Leg) → slice_get job.legs k ≡ Some leg → calls (first + k) ≡ new (first + k))
    → JobPlayed answers run before first plan calls job → JobPlayed answers run before first plan new job
job_calls answers run before first plan calls new job same played = record {
  state = played.state;
  untouched = played.untouched;
  legs = λ k leg is. subst (λ (c : Option StepCall). LegPlayed answers (spot_at run plan (needs_of run before plan) first k) c leg) (same k leg is) (played.legs k leg is);
}

run_calls : (answers : Answers) (first : ℕ) (plan : RunPlan) (calls new : ℕ → Option StepCall) (run : Run)
    → ((j : ℕ) (job : Job) (k : ℕ) (leg : Leg) → slice_get run.jobs j ≡ Some job → slice_get job.legs k ≡ Some leg
    → calls (first + before_job j plan.jobs + k) ≡ new (first + before_job j plan.jobs + k))
    → RunPlayed answers first plan calls run → RunPlayed answers first plan new run
run_calls answers first plan calls new run same played = record {
  stop = played.stop;
  group = played.group;
  jobs = λ j job_plan job planned is. job_calls answers plan (take j (jobs_of answers first plan)) (first + before_job j plan.jobs) job_plan calls new job
      (λ k leg at. same j job k leg is at) (played.jobs j job_plan job planned is);
  needs = played.needs;
  closed = played.closed;
  over = played.over;
}

-- ---- a run is changed, where the leg at a place may be in another call

module _ (p : Plan) (b : Board) (answers : Answers) (calls later : ℕ → Option StepCall) (at : LegPlace) (same : SameBut p b at calls later) (played : Played answers p calls b.runs)
    (plan : RunPlan) (run : Run) (planned : slice_get p.runs at.run ≡ Some plan) (in_board : slice_get b.runs at.run ≡ Some run)
    (new : Board) (stays : Stays b new) where
  abbrev first : ℕ
  first = before_run at.run p.runs

  had : RunPlayed answers first plan calls run
  had = played at.run plan run planned in_board

  run_stays : (f : Run → Run) → new.runs ≡ changed b.runs at.run f → RunStays run (f run)
  run_stays f is = zip-get RunStays b.runs new.runs at.run run (f run) in_board (ap (λ (rs : List Run). slice_get rs at.run) is ∙ changed-there b.runs at.run f run in_board) stays

  run_put : (f : Run → Run) → new.runs ≡ changed b.runs at.run f → RunPlayed answers first plan later (f run) → Played answers p later new.runs
  run_put f is now r q x planned_so there =
      each-changed (λ i y. (z : RunPlan) → slice_get p.runs i ≡ Some z → RunPlayed answers (before_run i p.runs) z later y) b.runs at.run f run in_board
      (λ z at_z. subst (λ (y : RunPlan). RunPlayed answers first y later (f run)) (same_some plan z (sym planned ∙ at_z)) now)
      (λ i y other in_runs z at_z. run_calls answers (before_run i p.runs) z calls later y
      (λ j job k leg in_jobs in_legs. same i j k z y job leg at_z in_runs in_jobs in_legs (λ e. other (ap (λ (s : LegPlace). s.run) e))) (played i z y at_z in_runs))
      r x (ap (λ (rs : List Run). slice_get rs r) (sym is) ∙ there) q planned_so

  -- ---- a job of it

  module _ (job_plan : JobPlan) (job : Job) (in_plan : slice_get plan.jobs at.job ≡ Some job_plan) (in_run : slice_get run.jobs at.job ≡ Some job) (unclosed : is_closed run.state ≡ false) where
    abbrev with_job : (Job → Job) → Run → Run
    with_job g x = record x { jobs = changed x.jobs at.job g }

    -- what is known of a job of the changed run
    abbrev JobHere : ℕ → Job → Type 0
    JobHere i x =
        (q : JobPlan) → slice_get plan.jobs i ≡ Some q
        → JobPlayedAt answers first plan later i q x × (is_judged x.state ≡ true → needs_have_ended (q.number - i) run q ≡ true)

    pub job_changes : (g : Job → Job) → new.runs ≡ changed b.runs at.run (with_job g) → JobPlayedAt answers first plan later at.job job_plan (g job)
        → (is_judged (g job).state ≡ true → needs_have_ended (job_plan.number - at.job) run job_plan ≡ true) → Played answers p later new.runs
    job_changes g is now needed = run_put (with_job g) is (record {
      stop = had.stop;
      group = had.group;
      jobs = λ j q x at_q there. (here j x there q at_q).0;
      needs = λ j q x at_q there was. needs-later (q.number - j) run (with_job g run) q (run_stays (with_job g) is) ((here j x there q at_q).1 was);
      closed = had.closed;
      over = λ was. absurd (true≢false (sym was ∙ unclosed));
    })
      where
        here : (i : ℕ) (x : Job) → slice_get (changed run.jobs at.job g) i ≡ Some x → JobHere i x
        here = each-changed JobHere run.jobs at.job g job in_run
            (λ q at_q. subst (λ (y : JobPlan). JobPlayedAt answers first plan later at.job y (g job) × (is_judged (g job).state ≡ true → needs_have_ended (y.number - at.job) run y ≡ true))
            (same_some job_plan q (sym in_plan ∙ at_q)) (now, needed))
            (λ i x other there q at_q. (
              job_calls answers plan (take i (jobs_of answers first plan)) (first + before_job i plan.jobs) q calls later x
                  (λ k leg in_legs. same at.run i k plan run x leg planned in_board there in_legs (λ e. other (ap (λ (s : LegPlace). s.job) e))) (had.jobs i q x at_q there),
              had.needs i q x at_q there,
            ))

    -- ---- a leg of that, which is Open

    abbrev LegHere : (ℕ → Option StepCall) → ℕ → Leg → Type 0
    LegHere open_calls k leg =
        LegPlayed answers (spot_at plan job_plan (needs_of plan (take at.job (jobs_of answers first plan)) job_plan) (first + before_job at.job plan.jobs) k)
        (open_calls (first + before_job at.job plan.jobs + k)) leg

    pub leg_changes : (f : Leg → Leg) (leg : Leg) → slice_get job.legs at.leg ≡ Some leg → is_open job.state ≡ true → new.runs ≡ (with_leg b at f).runs → LegHere later at.leg (f leg)
        → Played answers p later new.runs
    leg_changes f leg in_job opened is now = job_changes (λ x. record x { legs = changed x.legs at.leg f }) is (record {
      state = had_job.state;
      untouched = λ shut. absurd (true≢false (sym opened ∙ shut));
      legs = each-changed (LegHere later) job.legs at.leg f leg in_job now (λ k x other there. subst
          (λ (c : Option StepCall). LegPlayed answers (spot_at plan job_plan (needs_of plan (take at.job (jobs_of answers first plan)) job_plan) (first + before_job at.job plan.jobs) k) c x)
          (same at.run at.job k plan run job x planned in_board in_run there (λ e. other (ap (λ (s : LegPlace). s.leg) e))) (had_job.legs k x there));
    }) (had.needs at.job job_plan job in_plan in_run)
      where
        had_job : JobPlayedAt answers first plan calls at.job job_plan job
        had_job = had.jobs at.job job_plan job in_plan in_run

-- ---- a run is changed by the same calls, but neither its jobs nor that it is to stop

pub no_other : (p : Plan) (b : Board) (at : LegPlace) (calls : ℕ → Option StepCall) → SameBut p b at calls calls
no_other p b at calls r j k plan run job leg planned in_board in_run in_job differs = refl

pub run_changes : (p : Plan) (b : Board) (answers : Answers) (calls : ℕ → Option StepCall) (r : ℕ) → Played answers p calls b.runs → (plan : RunPlan) (run : Run)
    → slice_get p.runs r ≡ Some plan → slice_get b.runs r ≡ Some run → (new : Board) → Stays b new → (f : Run → Run) → new.runs ≡ changed b.runs r f
    → f run ≡ record run { state = (f run).state; group = (f run).group } → (f run).group ≡ None
    → ((result : Outcome) → (f run).state ≡ RunState.Closed result → (run_after (jobs_of answers (before_run r p.runs) plan)).result ≡ Some result)
    → (is_closed (f run).state ≡ true → (j : ℕ) (job : Job) → slice_get run.jobs j ≡ Some job → JobOver job)
    → Played answers p calls new.runs
run_changes p b answers calls r played plan run planned in_board new stays f is kept none closed over =
    let had = played r plan run planned in_board in
    let now : Run = record run { state = (f run).state; group = (f run).group } in
    let stay = run_stays p b answers calls calls (leg_spot r 0 0) (no_other p b (leg_spot r 0 0) calls) played plan run planned in_board new stays f is in
    run_put p b answers calls calls (leg_spot r 0 0) (no_other p b (leg_spot r 0 0) calls) played plan run planned in_board new stays f is
    (subst (RunPlayed answers (before_run r p.runs) plan calls) (sym kept) (record {
      stop = had.stop;
      group = none;
      jobs = had.jobs;
      needs = λ j q x at_q there was. needs-later (q.number - j) run now q (subst (RunStays run) kept stay) (had.needs j q x at_q there was);
      closed = closed;
      over = over;
    }))
