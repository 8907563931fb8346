-- The variables of calls, by what the steps of a leg that are done set for those after them.
use Rattle.std.specs.Prelude.{◌≡◌, ℕ, List, [], Some}
use Rattle.status_table.specs.Words.{Board, DoneStep, Each, Event, IfCalled, LegAt, Plan, StepPlan, job_env, leg_at, leg_env, next_step, row}
use Rattle.board_settled.specs.CallLaws.{MostSpecificIsGiven}

-- After these steps of a leg, each call of its next step is given what the step says itself of a variable, else what the
-- last of the steps that set it set it to, else what the job says, else what the workflow says.
abbrev pub LastToSetWins : Plan → List DoneStep → Type 0
LastToSetWins p steps =
    (b : Board) (worker l : ℕ) (at : LegAt) (step : StepPlan)
    → leg_at p b l ≡ Some at → at.leg.steps ≡ steps → next_step at ≡ Some step
    → IfCalled (MostSpecificIsGiven at step) (row p b worker (Event.Begin l))

-- Where no step of a leg that is done set anything, its variables are those of its job.
abbrev pub NothingSetIsTheJobs : Type 0
NothingSetIsTheJobs = (at : LegAt) → Each (λ done. done.env ≡ []) at.leg.steps → leg_env at ≡ job_env at
