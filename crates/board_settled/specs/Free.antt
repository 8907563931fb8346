-- Plans in which nothing rests on the order of events, other than that jobs come after what they need.
use Rattle.std.specs.Prelude.{◌≡◌, ◌⊎◌, false, [], None, length}
use Rattle.status_table.specs.Words.{Each, JobPlan, Plan, RunPlan}

-- A job is in no group. It has one leg; or no leg stops others that fail, and there are no outputs, which
-- legs would lay over one another.
pub record JobIsFree (job : JobPlan) : Type 0 where
  pub group : job.group ≡ None
  pub fails_slowly : (job.fail_fast ≡ false) ⊎ (length job.legs ≡ 1)
  pub outputs : (job.outputs ≡ []) ⊎ (length job.legs ≡ 1)

-- A run is in no group, and each of its jobs is free.
pub record RunIsFree (run : RunPlan) : Type 0 where
  pub group : run.group ≡ None
  pub jobs : Each JobIsFree run.jobs

-- Each run is.
abbrev pub IsFree : Plan → Type 0
IsFree p = Each RunIsFree p.runs
