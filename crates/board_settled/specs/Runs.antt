-- Runs on a board on which nothing is told to stop, and that are held against what is settled.
use Rattle.std.specs.Prelude.{◌≡◌, ℕ, ◌+◌, false, Option, Some, None, slice_get}
use Rattle.status_table.specs.Words.{Board, Each, HasShape, IsPlan, JobAt, MembersFit, Plan, Run, RunAt, RunPlan}
use Rattle.board_settled.specs.Agrees.{RunIsSettled}
use Rattle.board_settled.specs.Settled.{SettledRun, leg_count}
use Rattle.board_settled.specs.Quiet.{ended_in_order}

-- A board of a plan on which each leg stands rightly, no run is told to stop, and the legs that are Ended stand among
-- the ends in the order of their numbers.
pub record IsQuiet (p : Plan) (b : Board) : Type 0 where
  pub rules : IsPlan p
  pub shape : HasShape p b
  pub fits : MembersFit p b
  pub ends : b.ends ≡ ended_in_order b
  pub runs : Each (λ run. run.stop ≡ false) b.runs

-- A run of such a board, by its number.
pub record RunStands (r : ℕ) (at : RunAt) : Type 0 where
  pub whole : Plan
  pub board : IsQuiet whole at.board
  pub planned : slice_get whole.runs r ≡ Some at.plan
  pub in_board : slice_get at.board.runs r ≡ Some at.run

-- A job of such a run, at its place.
pub record IsJobOf (r j : ℕ) (at : RunAt) (x : JobAt) : Type 0 where
  pub planned : slice_get at.plan.jobs j ≡ Some x.plan
  pub there : slice_get at.run.jobs j ≡ Some x.job
  pub is : x ≡ record { board = at.board; place = record { run = r; job = j }; run_plan = at.plan; plan = x.plan; run = at.run; job = x.job }

-- A run is settled, and the first leg after those of its jobs has the given number, where its own first has another; or it is not.
abbrev pub RunComes : ℕ → RunPlan → SettledRun → Run → Option ℕ → Type 0
RunComes first plan given run (Some next) = RunIsSettled given run × (next ≡ first + leg_count plan.jobs)
RunComes first plan given run None = RunIsSettled given run → ⊥
