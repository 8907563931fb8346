-- Laws of what the texts of a plan decide, over the rows of the table.
use Rattle.std.specs.Prelude.{◌≡◌, ℕ, true, false, List, Option, Some, None, Ok, Err}
use Rattle.std.specs.List.{list_any}
use Rattle.status_table.specs.Words.{Answer, Board, DoneStep, Event, LegAt, Outcome, Piece, Plan, Row, StepPlan, What, condition_read, is_failure, leg_at, names_status, next_step, row, step_done, step_tolerates}

-- A condition names no status function: there is none, or its text is read as one that names none.
abbrev pub NamesNoStatus : Option (List ℕ) → Type 0
NamesNoStatus None = Unit {0}
NamesNoStatus (Some bytes) = (ps : List Piece) × (condition_read bytes ≡ Some ps) × (names_status ps ≡ false)

-- A step of the leg that is done counts as a failure.
abbrev pub HasFailedStep : LegAt → Type 0
HasFailedStep at = list_any (λ step. is_failure step.conclusion) at.leg.steps ≡ true

-- No call is carried.
abbrev pub CarriesNoCall : What → Type 0
CarriesNoCall (What.Call call) = ⊥
CarriesNoCall What.Moved = Unit {0}
CarriesNoCall What.Skipped = Unit {0}
CarriesNoCall (What.Faulted fault) = Unit {0}

-- The reply of a row, if it is accepted, carries no call.
abbrev pub CallsNothing : Row → Type 0
CallsNothing (Ok x) = CarriesNoCall x.1.what
CallsNothing (Err refusal) = Unit {0}

-- After a step that counts as a failure, a step whose condition names no status function is never in a call.
abbrev pub NoCallAfterFailure : Type 0
NoCallAfterFailure =
    (p : Plan) (b : Board) (worker l : ℕ) (at : LegAt) (step : StepPlan)
    → leg_at p b l ≡ Some at → next_step at ≡ Some step
    → NamesNoStatus step.condition → HasFailedStep at → CallsNothing (row p b worker (Event.Begin l))

-- The step that is done failed, and the leg's next step may fail by its continue-on-error.
pub record IsPassedOver (at : LegAt) (done : DoneStep) : Type 0 where
  pub failed : done.outcome ≡ Outcome.Failure
  pub step : StepPlan
  pub next : next_step at ≡ Some step
  pub passed : step_tolerates at step ≡ true

-- The leg has one more step done, whose conclusion differs
-- from its outcome only where a failure was passed over.
abbrev pub EndsStep : Board → ℕ → LegAt → Board → Type 0
EndsStep b worker at new =
    (done : DoneStep) × (new ≡ step_done b at.place worker done)
    × ((done.conclusion ≡ done.outcome → ⊥) → IsPassedOver at done)

-- A step ends so, but where a call is carried: then no step is done.
abbrev pub EndsUncalled : What → Board → ℕ → LegAt → Board → Type 0
EndsUncalled (What.Call call) b worker at new = Unit {0}
EndsUncalled What.Moved b worker at new = EndsStep b worker at new
EndsUncalled What.Skipped b worker at new = EndsStep b worker at new
EndsUncalled (What.Faulted fault) b worker at new = EndsStep b worker at new

-- A row, if it is accepted, ends a step so, or carries its call.
abbrev pub Concludes : Board → ℕ → LegAt → Row → Type 0
Concludes b worker at (Ok x) = EndsUncalled x.1.what b worker at x.0
Concludes b worker at (Err refusal) = Unit {0}

-- Where a step is done, by Begin or by End, its conclusion differs from its outcome only where the outcome is
-- failure and its continue-on-error holds.
abbrev pub OnlyFailuresArePassedOver : Type 0
OnlyFailuresArePassedOver =
    (p : Plan) (b : Board) (worker l : ℕ) (at : LegAt) → leg_at p b l ≡ Some at
    → Concludes b worker at (row p b worker (Event.Begin l))
    × ((a : Answer) → Concludes b worker at (row p b worker (Event.End l a)))
