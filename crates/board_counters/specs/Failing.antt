-- Which legs have a done step that counts as a failure.
use Rattle.std.specs.Prelude.{Bool, true, false, List, map, Option, Some, None, slice_get, if◌then◌else◌}
use Rattle.std.specs.List.{list_any}
use Rattle.status_table.specs.Words.{Board, DoneStep, Job, Leg, LegPlace, Run, changed, is_failure, ◌>>=◌}

-- whether a done step counts as a failure
abbrev pub any_failed : List DoneStep → Bool
any_failed steps = list_any (λ step. is_failure step.conclusion) steps

-- whether a done step of a leg does
abbrev pub leg_failing : Leg → Bool
leg_failing leg = any_failed leg.steps

-- whether a done step of each leg of a job does
abbrev pub job_failing : Job → List Bool
job_failing job = map leg_failing job.legs

-- of each leg of a run
abbrev pub run_failing : Run → List (List Bool)
run_failing run = map job_failing run.jobs

-- of each leg of a board
abbrev pub failing_of : Board → List (List (List Bool))
failing_of b = map run_failing b.runs

-- a truth that may be there
abbrev pub or_false : Option Bool → Bool
or_false None = false
or_false (Some b) = b

-- that of the leg at a place
abbrev pub failing_at : List (List (List Bool)) → LegPlace → Bool
failing_at failing at =
    or_false (slice_get failing at.run >>= λ row. slice_get row at.job >>= λ legs. slice_get legs at.leg)

-- the truth at a place is this
abbrev pub failing_set : LegPlace → Bool → List (List (List Bool)) → List (List (List Bool))
failing_set at holds failing =
    changed failing at.run (λ row. changed row at.job (λ legs. changed legs at.leg (λ before. holds)))

-- the truths after a step of the leg at a place was done, which failed or did not
abbrev pub failing_noted : LegPlace → Bool → List (List (List Bool)) → List (List (List Bool))
failing_noted at failed failing = if failed then failing_set at true failing else failing

-- whether a step of a leg that may be there failed
abbrev pub leg_failed : Option Leg → Bool
leg_failed None = false
leg_failed (Some leg) = leg_failing leg

-- the truths after the last step of the leg at a place was taken off, which is such now: where none failed, none does
abbrev pub failing_taken : LegPlace → Option Leg → List (List (List Bool)) → List (List (List Bool))
failing_taken at leg failing = if failing_at failing at then failing_set at (leg_failed leg) failing else failing
