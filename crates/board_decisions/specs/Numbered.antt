-- The places of the jobs and legs of a board agree with the order in which they are numbered.
use Rattle.std.specs.Prelude.{◌≡◌, ℕ, Option, Some, length, nat_lt, slice_get, is_some}
use Rattle.plan_values.specs.Words.{Board, Job, Leg, Plan, board_jobs, board_legs, plan_jobs, plan_legs}
use Rattle.board_decisions.specs.Place.{◌>>=◌, JobAt, LegAt, job_place, leg_place}
use Rattle.board_decisions.specs.declared.place.JobPlace.{JobPlace}
use Rattle.board_decisions.specs.declared.place.LegPlace.{LegPlace}

-- the job that stands at a place
abbrev pub job_there : Board → JobPlace → Option Job
job_there b at = slice_get b.runs at.run >>= λ run. slice_get run.jobs at.job

-- the leg that stands at a place
abbrev pub leg_there : Board → LegPlace → Option Leg
leg_there b at =
    slice_get b.runs at.run >>= λ run. slice_get run.jobs at.job >>= λ job. slice_get job.legs at.leg

-- the leg at the place of a number
abbrev pub numbered_leg : Board → ℕ → Option Leg
numbered_leg b n = leg_place b n >>= leg_there b

-- The numbers with a place are those of the jobs, and at the place of number n stands item n of all jobs.
pub record JobsAreNumbered (b : Board) : Type 0 where
  pub placed : (n : ℕ) → is_some (job_place b n) ≡ nat_lt n (length (board_jobs b))
  pub there : (n : ℕ) → (job_place b n >>= job_there b) ≡ slice_get (board_jobs b) n

-- The numbers with a place are those of the legs, and at the place of number n stands item n of all legs.
pub record LegsAreNumbered (b : Board) : Type 0 where
  pub placed : (n : ℕ) → is_some (leg_place b n) ≡ nat_lt n (length (board_legs b))
  pub there : (n : ℕ) → (leg_place b n >>= leg_there b) ≡ slice_get (board_legs b) n

-- The job that is found by number n is planned as item n of all jobs of the plan, which has that number.
pub record IsNumberedIn (p : Plan) (n : ℕ) (at : JobAt) : Type 0 where
  pub item : slice_get (plan_jobs p) n ≡ Some at.plan
  pub number : at.plan.number ≡ n

-- The leg that is found by number n has the combination that is item n of all legs of the plan.
abbrev pub IsPlannedAt : Plan → ℕ → LegAt → Type 0
IsPlannedAt p n at = slice_get (plan_legs p) n ≡ slice_get at.job_plan.legs at.place.leg

-- A board has as many jobs and legs as its plan.
pub record HasAsMany (p : Plan) (b : Board) : Type 0 where
  pub jobs : length (board_jobs b) ≡ length (plan_jobs p)
  pub legs : length (board_legs b) ≡ length (plan_legs p)
