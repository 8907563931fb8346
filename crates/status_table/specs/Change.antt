-- One change of a board: at a run, at a job of a run, or at a leg of a job, by its place or its number.
use Rattle.std.specs.Prelude.{ℕ, List, Option, Some, None, slice_get, slice_set}
use Rattle.plan_values.specs.Words.{Board, Job, Leg, Run}
use Rattle.board_decisions.specs.Place.{leg_place}
use Rattle.board_decisions.specs.declared.place.JobPlace.{JobPlace}
use Rattle.board_decisions.specs.declared.place.LegPlace.{LegPlace}

-- the list with the item at a place put in, where there is one
abbrev pub put : {T : Type 0} → List T → ℕ → (T → T) → Option T → List T
put xs i f None = xs
put xs i f (Some x) = slice_set xs i (f x)

-- the list with its item at a place changed, where there is one
abbrev pub changed : {T : Type 0} → List T → ℕ → (T → T) → List T
changed xs i f = put xs i f (slice_get xs i)

-- the board with a run changed
abbrev pub with_run : Board → ℕ → (Run → Run) → Board
with_run b r f = record b { runs = changed b.runs r f }

-- the board with a job changed
abbrev pub with_job : Board → JobPlace → (Job → Job) → Board
with_job b at f = with_run b at.run (λ run. record run { jobs = changed run.jobs at.job f })

-- the board with a leg changed
abbrev pub with_leg : Board → LegPlace → (Leg → Leg) → Board
with_leg b at f =
    with_run b at.run (λ run.
    record run { jobs = changed run.jobs at.job (λ job. record job { legs = changed job.legs at.leg f }) })

-- the runs with the leg at a place changed, where a place was found
abbrev pub leg_changed : List Run → Option LegPlace → (Leg → Leg) → List Run
leg_changed runs None f = runs
leg_changed runs (Some at) f =
    changed runs at.run (λ run.
    record run { jobs = changed run.jobs at.job (λ job. record job { legs = changed job.legs at.leg f }) })

-- the board with the leg of a number changed, where there is one
abbrev pub with_numbered_leg : Board → ℕ → (Leg → Leg) → Board
with_numbered_leg b l f = record b { runs = leg_changed b.runs (leg_place b l) f }
