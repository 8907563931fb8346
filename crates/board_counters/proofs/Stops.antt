-- How many legs of a run are told to stop, after a change.
use Rattle.std.proofs.Common.{◌≡◌, ℕ, ◌+◌, ◌<◌, ◌≤◌, Bool, false, List, Option, Some, None, length, map, option_map, slice_get, get_or, count_by, sum_by, ap, sym, refl, ◌∙◌, arith}
use Rattle.std.proofs.lemmas.List.Sums.{count_by-le-length, get_or-le-sum_by, sum_by-le-sum_by}
use Rattle.board_counters.specs.Words.{Board, IsPlan, Job, Leg, LegChange, LegPlace, Plan, Run, RunLegs, RunPlan, SoundPlan, changed, is_told, leg_after, leg_there, leg_was, legs_of_jobs, new_board, new_job, new_leg, new_run, run_legs, run_legs_there, stop_in, told_of, told_turned, turned, untold_legs, with_leg, ◌>>=◌}
use Rattle.board_decisions.proofs.Lists.{map-get}
use Rattle.board_counters.proofs.Lists.{changed-none, map-changed, map-same, map-twice, turned-by}
use Rattle.board_counters.proofs.Tallies.{in_job, in_run, there, turned_same}
use Rattle.status_table.proofs.Accepting.{legs_counted}
use Rattle.status_table.proofs.Counts.{one, sum-changed, sum-kept, sum-map}
use Rattle.status_table.proofs.InPlay.{few_in_play, new_in_play}
use Rattle.status_table.proofs.Lists.{length-changed}

-- ---- sums as they are counted

pub one_within : {A : Type 0} (f : A → ℕ) (xs : List A) (i : ℕ) (d : A) → i < length xs → f (get_or xs i d) ≤ sum_by f xs
one_within f xs i d within = get_or-le-sum_by f xs i d within

-- ---- one leg of a run

told-same : (c : Bool) (t : RunLegs) → told_turned c c t ≡ t
told-same c t = λ i. record { all = t.all; told = turned_same t.all t.told c i }

module _ (b : Board) (place : LegPlace) (f : Leg → Leg) where
  all-kept : (run : Run) → legs_of_jobs (in_run place f run).jobs ≡ legs_of_jobs run.jobs
  all-kept run = sum-kept (λ (job : Job). length job.legs) run.jobs place.job (in_job place f) (λ job. length-changed job.legs place.leg f)

  none-changed : (run : Run) → changed run.jobs place.job (in_job place f) ≡ run.jobs → run_legs (in_run place f run) ≡ run_legs run
  none-changed run same = ap (λ (jobs : List Job). run_legs (record run { jobs = jobs })) same

  one-job : (run : Run) (job : Job) → slice_get run.jobs place.job ≡ Some job → (o : Option Leg) → slice_get job.legs place.leg ≡ o
      → run_legs (in_run place f run) ≡ told_turned (is_told o) (is_told (option_map f o)) (run_legs run)
  one-job run job in_jobs None at = λ i. record { all = all-kept run i; told = told-kept i }
    where
      told-kept : sum_by told_of (changed run.jobs place.job (in_job place f)) ≡ sum_by told_of run.jobs
      told-kept =
          let sums = sum-changed told_of run.jobs place.job (in_job place f) job in_jobs in
          let same : told_of (in_job place f job) ≡ told_of job = ap (λ (legs : List Leg). count_by (λ (leg : Leg). leg.stop) legs) (changed-none job.legs place.leg f at) in
          omega (arith, sums, same)
  one-job run job in_jobs (Some leg) at = λ i. record { all = all-kept run i; told = told-changed i }
    where
      told-changed : sum_by told_of (changed run.jobs place.job (in_job place f)) ≡ turned (legs_of_jobs run.jobs) (sum_by told_of run.jobs) leg.stop (f leg).stop
      told-changed =
          let jobs = sum-changed told_of run.jobs place.job (in_job place f) job in_jobs in
          let legs : told_of (in_job place f job) + one leg.stop ≡ told_of job + one (f leg).stop = sum-changed (λ (x : Leg). one x.stop) job.legs place.leg f leg at in
          let most : sum_by told_of (changed run.jobs place.job (in_job place f)) ≤ legs_of_jobs (changed run.jobs place.job (in_job place f)) = sum_by-le-sum_by told_of (λ (x : Job). length x.legs) (changed run.jobs place.job (in_job place f)) (λ x. count_by-le-length (λ (y : Leg). y.stop) x.legs) in
          let size = all-kept run in
          turned-by (legs_of_jobs run.jobs) (sum_by told_of run.jobs) (sum_by told_of (changed run.jobs place.job (in_job place f))) leg.stop (f leg).stop
          (omega (arith, jobs, legs)) (omega (arith, most, size))

  one-run : (run : Run) → slice_get b.runs place.run ≡ Some run
      → run_legs (in_run place f run) ≡ told_turned (is_told (leg_there b place)) (is_told (option_map f (leg_there b place))) (run_legs run)
  one-run run in_runs = by (slice_get run.jobs place.job) refl
    where
      by : (o : Option Job) → slice_get run.jobs place.job ≡ o → run_legs (in_run place f run) ≡ told_turned (is_told (leg_there b place)) (is_told (option_map f (leg_there b place))) (run_legs run)
      by None at =
          let nowhere : leg_there b place ≡ None =
          ap (λ (o : Option Run). o >>= λ x. slice_get x.jobs place.job >>= λ job. slice_get job.legs place.leg) in_runs ∙ ap (λ (o : Option Job). o >>= λ job. slice_get job.legs place.leg) at in
          none-changed run (changed-none run.jobs place.job (in_job place f) at) ∙ sym (λ i. told_turned (is_told (nowhere i)) (is_told (option_map f (nowhere i))) (run_legs run))
      by (Some job) at =
          let legs = there b place run job in_runs at in
          one-job run job at (slice_get job.legs place.leg) refl ∙ sym (λ i. told_turned (is_told (legs i)) (is_told (option_map f (legs i))) (run_legs run))

  pub told_follow : changed (map run_legs b.runs) place.run (told_turned (is_told (leg_there b place)) (is_told (option_map f (leg_there b place)))) ≡ map run_legs (with_leg b place f).runs
  told_follow = sym (map-changed run_legs b.runs place.run (in_run place f) (told_turned (is_told (leg_there b place)) (is_told (option_map f (leg_there b place)))) one-run)

-- ---- the counts of a board after a change

-- where a leg is changed, by what was exchanged
pub told_exchanged : (b new : Board) (place : LegPlace) (how back : LegChange) (was is : Bool) (old made : List RunLegs) → old ≡ map run_legs b.runs → new ≡ with_leg b place (leg_after how)
    → back ≡ leg_was how (leg_there b place) → was ≡ stop_in back → is ≡ stop_in how → made ≡ changed old place.run (told_turned was is) → made ≡ map run_legs new.runs
told_exchanged b new place how back was is old made counted new_is back_is was_is is_is made_is =
    made_is
    ∙ (λ i. changed (counted i) place.run (told_turned ((was_is ∙ ap stop_in back_is) i) (is_is i)))
    ∙ ap (λ (t : RunLegs → RunLegs). changed (map run_legs b.runs) place.run t) (λ i x. by (leg_there b place) how x i)
    ∙ told_follow b place (leg_after how)
    ∙ ap (λ (x : Board). map run_legs x.runs) (sym new_is)
  where
    by : (o : Option Leg) (how : LegChange) (x : RunLegs) → told_turned (stop_in (leg_was how o)) (stop_in how) x ≡ told_turned (is_told o) (is_told (option_map (leg_after how) o)) x
    by None how x = told-same (stop_in how) x ∙ sym (told-same false x)
    by (Some leg) (LegChange.Stop stop) x = refl
    by (Some leg) how x = told-same false x ∙ sym (told-same leg.stop x)

-- they stay where each leg of a job is told to stop as before
module _ (runs : List Run) (r j : ℕ) (g : Job → Job) (same_all : (job : Job) → length (g job).legs ≡ length job.legs) (same_told : (job : Job) → told_of (g job) ≡ told_of job) where
  jobs-told : (run : Run) → run_legs (record run { jobs = changed run.jobs j g }) ≡ run_legs run
  jobs-told run = λ i. record {
    all = sum-kept (λ (job : Job). length job.legs) run.jobs j g same_all i;
    told = sum-kept told_of run.jobs j g same_told i;
  }

  pub job_told_kept : map run_legs (changed runs r (λ run. record run { jobs = changed run.jobs j g })) ≡ map run_legs runs
  job_told_kept = map-same run_legs runs r (λ run. record run { jobs = changed run.jobs j g }) (λ run at. jobs-told run)

pub leg_told_kept : (b new : Board) (place : LegPlace) (f : Leg → Leg) (old made : List RunLegs) → old ≡ map run_legs b.runs → new ≡ with_leg b place f → ((leg : Leg) → (f leg).stop ≡ leg.stop)
    → made ≡ old → made ≡ map run_legs new.runs
leg_told_kept b new place f old made counted new_is keeps made_is =
    made_is
    ∙ counted
    ∙ sym (job_told_kept b.runs place.run place.job (λ job. record job { legs = changed job.legs place.leg f })
    (λ job. length-changed job.legs place.leg f) (λ job. sum-kept (λ (leg : Leg). one leg.stop) job.legs place.leg f (λ leg. ap one (keeps leg))))
    ∙ ap (λ (x : Board). map run_legs x.runs) (sym new_is)

-- ---- the board on which all is new

-- a sum of so many that are 0
sum-none : {A B : Type 0} (w : B → ℕ) (f : A → B) (xs : List A) → ((x : A) → w (f x) ≡ 0) → sum_by w (map f xs) ≡ 0
sum-none w f xs none = let sum = sum-map w f 0 xs none in omega (arith, sum)

none-told : (plan : RunPlan) → untold_legs (new_run plan) ≡ run_legs (new_run plan)
none-told plan = λ i. record { all = legs_of_jobs (map new_job plan.jobs); told = sym none i }
  where
    none : sum_by told_of (map new_job plan.jobs) ≡ 0
    none = sum-none told_of new_job plan.jobs (λ job. sum-none (λ (leg : Leg). one leg.stop) new_leg job.legs (λ combo. refl))

pub new_told : (p : Plan) (b : Board) (made : List RunLegs) → b ≡ new_board p → made ≡ map untold_legs b.runs → made ≡ map run_legs b.runs
new_told p b made new made_is =
    made_is
    ∙ ap (λ (x : Board). map untold_legs x.runs) new
    ∙ map-twice new_run untold_legs (λ plan. run_legs (new_run plan)) p.runs none-told
    ∙ sym (map-twice new_run run_legs (λ plan. run_legs (new_run plan)) p.runs (λ plan. refl))
    ∙ ap (λ (x : Board). map run_legs x.runs) (sym new)

-- it has no more legs than a plan may have
pub new_few : (p : Plan) (b : Board) → IsPlan p → SoundPlan p → b ≡ new_board p → sum_by (λ run. legs_of_jobs run.jobs) b.runs ≤ 4096
new_few p b rules sound new =
    let counted = legs_counted b in
    let few = few_in_play p p b refl sound (new_in_play p p b refl rules sound new) in
    omega (arith, counted, few)

-- ---- what they tell of a run

pub told_legs : (runs : List Run) (r : ℕ) (run : Run) → slice_get runs r ≡ Some run → run_legs_there (slice_get (map run_legs runs) r) ≡ run_legs run
told_legs runs r run at = ap run_legs_there (map-get run_legs runs r run at)
