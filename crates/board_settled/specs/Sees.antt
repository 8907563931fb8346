-- What the contexts hold, seen from a leg, by what is settled alone (GitHub Docs, "Contexts reference"): the plan, what
-- the jobs that are needed came to, and the steps of the leg that are done.
use Rattle.std.specs.Prelude.{ℕ, List, []}
use Rattle.status_table.specs.Words.{Context, DoneStep, JobPlan, Outcome, Plain, RunPlan, Values, job_sees, job_value, matrix_shown, object, steps_shown, strategy_shown}

-- A leg as it is planned: its number, its run and its job, its place in the job,
-- and the context `needs` of the job.
pub record Spot : Type 0 where
  pub number : ℕ
  pub run : RunPlan
  pub job : JobPlan
  pub place : ℕ
  pub needs : Plain

-- The value of each context, seen from a leg that counts so after the steps that are done.
unfoldable pub leg_sees : Spot → Outcome → List DoneStep → Values
leg_sees spot result done Context.Strategy = strategy_shown spot.job spot.place
leg_sees spot result done Context.Matrix = matrix_shown spot.job spot.place
leg_sees spot result done Context.Job = job_value result
leg_sees spot result done Context.Steps = steps_shown spot.job.steps done
leg_sees spot result done Context.Env = object []
leg_sees spot result done Context.Jobs = object []
leg_sees spot result done Context.Runner = object []
leg_sees spot result done other = job_sees spot.run spot.needs other
