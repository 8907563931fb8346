-- What is kept of a leg beside its board.
use Rattle.std.specs.Prelude.{◌≡◌, Some, length, slice_get}
use Rattle.std.specs.List.{list_any}
use Rattle.plan_values.specs.Words.{StepPlan}
use Rattle.board_decisions.specs.Calls.{AreCallsOf}
use Rattle.board_decisions.specs.Decisions.{stops_anyway}
use Rattle.board_decisions.specs.Derived.{is_failure}
use Rattle.board_decisions.specs.Place.{LegAt}
use Rattle.board_decisions.specs.declared.kept.LegKept.{LegKept}

-- What is kept of a leg is so.
pub record IsKeptOf (kept : LegKept) (at : LegAt) : Type 0 where
  pub stops : kept.stops_anyway ≡ stops_anyway at
  pub failed : kept.has_failed_step ≡ list_any (λ step. is_failure step.conclusion) at.leg.steps
  pub calls : (step : StepPlan) → slice_get at.job_plan.steps (length at.leg.steps) ≡ Some step → AreCallsOf at.run_plan at.job_plan step kept.calls
