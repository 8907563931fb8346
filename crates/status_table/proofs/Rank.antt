-- How many more entries a board may accept at most.
use Rattle.std.specs.Prelude.{ℕ, ◌+◌, ◌-◌, ◌*◌, Bool, true, false, length, sum_by, cond}
use Rattle.status_table.specs.Words.{Board, Job, JobState, Leg, LegState, Run, RunState, board_jobs, board_legs}

-- of a run: Open, Close, and Cancel if it was not told to stop
abbrev pub run_rank : RunState → Bool → ℕ
run_rank RunState.New stop = 2 + cond stop 0 1
run_rank (RunState.Closed result) stop = 0
run_rank other stop = 1 + cond stop 0 1

-- of a job: Judge
abbrev pub job_rank : JobState → ℕ
job_rank JobState.Unjudged = 1
job_rank other = 0

-- of a leg with so many steps left: Ask, Take, Begin and End of each, and Finish
abbrev pub leg_rank : LegState → ℕ → ℕ
leg_rank LegState.Fresh left = 3 + 2 * left
leg_rank (LegState.Running worker true) left = 2 * left
leg_rank (LegState.Running worker false) left = 1 + 2 * left
leg_rank (LegState.Ended result tolerated) left = 0
leg_rank other left = 2 + 2 * left

-- of a run
abbrev pub rank_of_run : Run → ℕ
rank_of_run run = run_rank run.state run.stop

-- of a job, without its legs
abbrev pub rank_of_job : Job → ℕ
rank_of_job job = job_rank job.state

-- of a leg, where a job has 256 steps at most
abbrev pub rank_of_leg : Leg → ℕ
rank_of_leg leg = leg_rank leg.state (256 - length leg.steps)

-- of a board
abbrev pub rank : Board → ℕ
rank b = sum_by rank_of_run b.runs + sum_by rank_of_job (board_jobs b) + sum_by rank_of_leg (board_legs b)
