-- Where the runs, jobs and legs with a number stand. Jobs
-- are numbered through all runs, and legs through all jobs.
use Rattle.std.specs.Prelude.{ℕ, suc, ◌-◌, List, [], ◌∷◌, length, nat_lt, Option, Some, None, Result, Ok, Err, slice_get, if◌then◌else◌}
use Rattle.plan_values.specs.Words.{Board, Job, JobPlan, Leg, Plan, Run, RunPlan}
use Rattle.board_decisions.specs.declared.place.JobPlace.{JobPlace}
use Rattle.board_decisions.specs.declared.place.LegPlace.{LegPlace}

infixl 10 ◌>>=◌
-- a look-up after another
abbrev pub ◌>>=◌ : {A B : Type 0} → Option A → (A → Option B) → Option B
None >>= f = None
(Some x) >>= f = f x

-- the place of the job with this number, counted through the runs from place k on
abbrev pub job_place_from : ℕ → List Run → ℕ → Option JobPlace
job_place_from k [] n = None
job_place_from k (run ∷ runs) n =
    if nat_lt n (length run.jobs) then Some (record { run = k; job = n })
    else job_place_from (suc k) runs (n - length run.jobs)

-- the place of the job with this number
abbrev pub job_place : Board → ℕ → Option JobPlace
job_place b n = job_place_from 0 b.runs n

-- the place of the leg with this number, counted through a
-- run's jobs from place k on; else what is left of the number
abbrev pub leg_in_jobs : ℕ → ℕ → List Job → ℕ → Result LegPlace ℕ
leg_in_jobs r k [] n = Err n
leg_in_jobs r k (job ∷ jobs) n =
    if nat_lt n (length job.legs) then Ok (record { run = r; job = k; leg = n })
    else leg_in_jobs r (suc k) jobs (n - length job.legs)

-- the place, or what comes of the number that is left
abbrev pub else_from : Result LegPlace ℕ → (ℕ → Option LegPlace) → Option LegPlace
else_from (Ok place) later = Some place
else_from (Err left) later = later left

-- the place of the leg with a number, counted through the runs from place k on
abbrev pub leg_place_from : ℕ → List Run → ℕ → Option LegPlace
leg_place_from k [] n = None
leg_place_from k (run ∷ runs) n =
    else_from (leg_in_jobs k 0 run.jobs n) (λ left. leg_place_from (suc k) runs left)

-- the place of the leg with this number
abbrev pub leg_place : Board → ℕ → Option LegPlace
leg_place b n = leg_place_from 0 b.runs n

-- ---- what stands there, with what was planned for it

-- a run in play on a board, with its plan
pub record RunAt : Type 0 where
  pub board : Board
  pub plan : RunPlan
  pub run : Run

-- a job in play on a board, with its run
pub record JobAt : Type 0 where
  pub board : Board
  pub place : JobPlace
  pub run_plan : RunPlan
  pub plan : JobPlan
  pub run : Run
  pub job : Job

-- a leg in play on a board, with its job and run
pub record LegAt : Type 0 where
  pub board : Board
  pub place : LegPlace
  pub run_plan : RunPlan
  pub job_plan : JobPlan
  pub run : Run
  pub job : Job
  pub leg : Leg

-- the run with a number
abbrev pub run_at : Plan → Board → ℕ → Option RunAt
run_at p b n = do
  plan ← slice_get p.runs n
  run ← slice_get b.runs n
  Some (record { board = b; plan = plan; run = run })

-- the job at a place, whose run is given
abbrev pub job_in_run : Board → RunPlan → Run → JobPlace → Option JobAt
job_in_run b run_plan run place = do
  plan ← slice_get run_plan.jobs place.job
  job ← slice_get run.jobs place.job
  Some (record { board = b; place = place; run_plan = run_plan; plan = plan; run = run; job = job })

-- the job at a place
abbrev pub job_placed : Plan → Board → JobPlace → Option JobAt
job_placed p b place = do
  run ← run_at p b place.run
  job_in_run b run.plan run.run place

-- the job with a number
abbrev pub job_at : Plan → Board → ℕ → Option JobAt
job_at p b n = do
  place ← job_place b n
  job_placed p b place

-- the leg at a place
abbrev pub leg_placed : Plan → Board → LegPlace → Option LegAt
leg_placed p b place = do
  at ← job_placed p b (record { run = place.run; job = place.job })
  leg ← slice_get at.job.legs place.leg
  Some
      (record {
        board = b;
        place = place;
        run_plan = at.run_plan;
        job_plan = at.plan;
        run = at.run;
        job = at.job;
        leg = leg;
      })

-- the leg with a number
abbrev pub leg_at : Plan → Board → ℕ → Option LegAt
leg_at p b n = do
  place ← leg_place b n
  leg_placed p b place
