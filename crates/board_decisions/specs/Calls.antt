-- Whether a step is called, as far as that is known without its leg.
use Rattle.std.specs.Prelude.{◌≡◌, ℕ, Bool, true, false, Result, Ok}
use Rattle.plan_values.specs.Words.{JobPlan, Outcome, RunPlan, StepPlan, ValueFault}
use Rattle.board_decisions.specs.Decisions.{is_called, leg_result, step_decision}
use Rattle.board_decisions.specs.declared.kept.Called.{Called}
use Rattle.board_decisions.specs.declared.kept.Called.TheVariants.{Yes, No, Unknown}
use Rattle.board_decisions.specs.declared.kept.Calls.{Calls}
use Rattle.board_decisions.specs.Place.{LegAt}

-- What is told is so: the value is this truth.
abbrev pub Tells : Called → Result Bool ValueFault → Type 0
Tells Yes value = value ≡ Ok true
Tells No value = value ≡ Ok false
Tells Unknown value = Unit {0}

-- what is told of a step, by how its leg counts
abbrev pub called_as : Calls → Outcome → Called
called_as calls Outcome.Success = calls.success
called_as calls Outcome.Failure = calls.failure
called_as calls Outcome.Cancelled = calls.cancelled
called_as calls Outcome.Skipped = Unknown

-- What is told of a step is so, whichever leg of its job begins it, and however that counts.
abbrev pub AreCallsOf : RunPlan → JobPlan → StepPlan → Calls → Type 0
AreCallsOf run job step calls =
    (l : ℕ) (at : LegAt) → at.run_plan ≡ run → at.job_plan ≡ job → Tells (called_as calls (leg_result at)) (is_called (step_decision l at step))
