-- What a board shows of a place is what is seen by the plan, the needs and the steps that are done.
use Rattle.std.proofs.Common.{◌≡◌, ℕ, ◌&&◌, Some, [], ap, if◌then◌else◌, refl, sym, ◌∙◌}
use Rattle.board_settled.specs.Words.{Context, JobAt, LegAt, Outcome, Plain, Spot, Status, StepPlan, TextPlace, condition_value, contexts_at, counts, failure_counts, failure_of, finish_of, is_failure, job_condition, job_of, job_passes, job_sees, job_tolerates, job_values, leg_outputs, leg_result, leg_sees, leg_values, leg_values_by, matrix_value, needs_value, next_call, outputs_of_leg, seen_after, seen_from, sight, status_of, step_call, step_decision, step_passes, step_tolerates, steps_value, strategy_value, with_env}

-- ---- jobs

-- a job's condition, by what it sees and its status
pub job_condition_is : (at : JobAt) (needs : Plain) (s : Status) → needs_value at ≡ needs
    → job_condition at s ≡ condition_value (contexts_at TextPlace.JobCondition (with_env [] (job_sees at.run_plan needs))) s at.plan.condition
unfolding job_condition job_values
job_condition_is at needs s same =
    ap (λ (needs : Plain). condition_value (contexts_at TextPlace.JobCondition (with_env [] (job_sees at.run_plan needs))) s at.plan.condition) same

-- ---- legs

-- a leg on a board, as it is planned
abbrev pub spot_of : ℕ → LegAt → Spot
spot_of l at = record { number = l; run = at.run_plan; job = at.job_plan; place = at.place.leg; needs = needs_value (job_of at) }

leg_values_are : (l : ℕ) (at : LegAt) (result : Outcome) → leg_values_by result at ≡ leg_sees (spot_of l at) result at.leg.steps
unfolding leg_values_by leg_sees job_values strategy_value matrix_value steps_value
leg_values_are l at result = λ i x. each x i
  where
    each : (x : Context) → leg_values_by result at x ≡ leg_sees (spot_of l at) result at.leg.steps x
    each Context.Needs = refl
    each x = refl

module _ (l : ℕ) (at : LegAt) (quiet : leg_result at ≡ counts at.leg.steps) where
  pub sight_is : seen_from at ≡ seen_after (spot_of l at) at.leg.steps
  unfolding seen_after leg_values
  sight_is = ap sight (leg_values_are l at (leg_result at) ∙ ap (λ (r : Outcome). leg_sees (spot_of l at) r at.leg.steps) quiet)

  -- what beginning the next step comes to
  pub call_is : (step : StepPlan) → step_decision l at step ≡ next_call (spot_of l at) at.leg.steps step
  unfolding next_call step_decision
  call_is step = λ i. step_call (sight_is i) (status_of (quiet i)) at.run_plan at.job_plan l at.leg.steps step

  -- how a failure of the next step counts
  pub failure_is : (step : StepPlan) → failure_of at (Some step) ≡ failure_counts (spot_of l at) at.leg.steps step
  unfolding step_tolerates
  failure_is step = λ i. (if step_passes (sight_is i) at.run_plan at.job_plan at.leg.steps step then Outcome.Success else Outcome.Failure)

  -- how the leg ends
  pub finish_is : finish_of (spot_of l at) at.leg.steps ≡ record { result = leg_result at; tolerated = is_failure (leg_result at) && job_tolerates at; outputs = leg_outputs at }
  unfolding finish_of job_tolerates leg_outputs
  finish_is = sym (λ i. record {
    result = quiet i;
    tolerated = is_failure (quiet i) && job_passes (sight_is i) at.job_plan;
    outputs = outputs_of_leg (sight_is i) at.run_plan at.job_plan at.leg.steps;
  })
