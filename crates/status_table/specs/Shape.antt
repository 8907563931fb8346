-- The shape that a plan gives its boards.
use Rattle.std.specs.Prelude.{◌≡◌, ◌≤◌, ℕ, ◌+◌, Bool, true, false, length, nat_le}
use Rattle.std.specs.List.{list_all, AllZip}
use Rattle.plan_values.specs.Words.{Board, Job, JobPlan, Leg, LegState, Plan, Run, RunPlan, board_legs}

-- how many calls of a leg are open: one where it is in a call
abbrev pub open_calls : LegState → ℕ
open_calls LegState.Fresh = 0
open_calls LegState.Waiting = 0
open_calls LegState.Admitted = 0
open_calls (LegState.Running worker true) = 1
open_calls (LegState.Running worker false) = 0
open_calls (LegState.Ended result tolerated) = 0

-- how many steps of a leg are done or in their call
abbrev pub steps_begun : Leg → ℕ
steps_begun leg = length leg.steps + open_calls leg.state

-- whether a leg has begun no more steps than its job has
abbrev pub has_room : JobPlan → Leg → Bool
has_room plan leg = nat_le (steps_begun leg) (length plan.steps)

-- a job has as many legs as its plan, and none of them has begun more steps than there are
pub record JobShape (plan : JobPlan) (job : Job) : Type 0 where
  pub legs : length job.legs ≡ length plan.legs
  pub steps : list_all (has_room plan) job.legs ≡ true

-- a run has as many jobs as its plan, each of its shape
abbrev pub RunShape : RunPlan → Run → Type 0
RunShape plan run = AllZip JobShape plan.jobs run.jobs

-- a board has as many runs as its plan, each of its shape
abbrev pub HasShape : Plan → Board → Type 0
HasShape p b = AllZip RunShape p.runs b.runs

-- a board has no more legs than a plan may have
abbrev pub HasFewLegs : Board → Type 0
HasFewLegs b = length (board_legs b) ≤ 4096
