-- How runs, jobs and legs of a board stand, each by what the board says of it alone.
use Rattle.std.specs.Prelude.{ℕ, ◌-◌, Bool, true, false, if◌then◌else◌, List, length, Option, Some, None, slice_get}
use Rattle.std.specs.List.{list_all}
use Rattle.status_table.specs.Words.{DoneStep, Job, JobState, Leg, LegState, RunState, is_ended, legs_result}
use Rattle.board_timeline.specs.declared.phase.Phase.{Phase}
use Rattle.board_timeline.specs.declared.phase.Phase.TheVariants.{Fresh, Waiting, Admitted, Going, Taken, Calling, Done, Shut, Ended}

-- ---- runs

abbrev pub run_phase : RunState → Phase
run_phase RunState.New = Fresh
run_phase RunState.Waiting = Waiting
run_phase RunState.Going = Going
run_phase (RunState.Closed how) = Ended how false

-- ---- legs

-- Between two steps the last step tells, if there is one.
abbrev pub last_done : ℕ → Option DoneStep → Phase
last_done place None = Taken
last_done place (Some done) = Done place done.outcome done.conclusion

abbrev pub idle_phase : List DoneStep → Phase
idle_phase steps = last_done (length steps - 1) (slice_get steps (length steps - 1))

-- A leg stands as its state and its steps say.
abbrev pub phase_by : LegState → List DoneStep → Phase
phase_by LegState.Fresh steps = Fresh
phase_by LegState.Waiting steps = Waiting
phase_by LegState.Admitted steps = Admitted
phase_by (LegState.Running worker true) steps = Calling (length steps)
phase_by (LegState.Running worker false) steps = idle_phase steps
phase_by (LegState.Ended result tolerated) steps = Ended result tolerated

abbrev pub leg_phase : Leg → Phase
leg_phase leg = phase_by leg.state leg.steps

-- ---- jobs

-- A job that was opened goes on until all its legs have ended, and has their result then.
abbrev pub open_phase : List Leg → Phase
open_phase legs = if list_all (λ leg. is_ended leg.state) legs then Ended (legs_result legs) false else Going

abbrev pub job_phase_by : JobState → List Leg → Phase
job_phase_by JobState.Unjudged legs = Fresh
job_phase_by JobState.Open legs = open_phase legs
job_phase_by (JobState.Shut how) legs = Shut how

abbrev pub job_phase : Job → Phase
job_phase job = job_phase_by job.state job.legs

-- ---- what is over

abbrev pub is_over : Phase → Bool
is_over Fresh = false
is_over Waiting = false
is_over Admitted = false
is_over Going = false
is_over Taken = false
is_over (Calling step) = false
is_over (Done step outcome conclusion) = false
is_over (Shut how) = false
is_over (Ended how tolerated) = true
