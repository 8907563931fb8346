-- The order in which jobs and legs are numbered: run after run, in a run job after job, in a job leg after leg. The job
-- or the leg with number n is item n, from 0, of these lists.
use Rattle.std.specs.Prelude.{ℕ, List, length, take}
use Rattle.std.specs.List.{flat_map}
use Rattle.flow_model.specs.Plain.{Plain}
use Rattle.flow_model.specs.declared.plan.Plan.{Plan}
use Rattle.flow_model.specs.declared.plan.JobPlan.{JobPlan}
use Rattle.flow_model.specs.declared.board.Board.{Board}
use Rattle.flow_model.specs.declared.board.Job.{Job}
use Rattle.flow_model.specs.declared.board.Leg.{Leg}

-- all jobs of a plan
abbrev pub plan_jobs : Plan → List JobPlan
plan_jobs p = flat_map (λ run. run.jobs) p.runs

-- all legs of a plan, each as its combination
abbrev pub plan_legs : Plan → List (List (List ℕ × Plain))
plan_legs p = flat_map (λ job. job.legs) (plan_jobs p)

-- all jobs of a board
abbrev pub board_jobs : Board → List Job
board_jobs b = flat_map (λ run. run.jobs) b.runs

-- all legs of a board
abbrev pub board_legs : Board → List Leg
board_legs b = flat_map (λ job. job.legs) (board_jobs b)

-- the number of the first job of the run at this place: how many jobs the runs before it have
abbrev pub first_job : Plan → ℕ → ℕ
first_job p r = length (flat_map (λ run. run.jobs) (take r p.runs))
