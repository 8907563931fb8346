-- Whether a condition waits for success, and which text of a step has no value.
use Rattle.std.specs.Prelude.{ℕ, ◌&&◌, Bool, true, false, not, List, Option, Some, None, Result, Ok, Err}
use Rattle.status_table.specs.Words.{Env, LegAt, Piece, Status, StepPlan, TextPlace, ValueFault, condition_read, condition_value, flow_env, job_variables_over, leg_status, names_status, seen_from, set_over, step_variables_over}
use Rattle.why_facts.specs.declared.fact.StepText.{StepText}
use Rattle.expr_value.specs.Functions.{is_success}

-- a condition that was read names no status function; what is no condition does not wait
abbrev pub read_waits : Option (List Piece) → Bool
read_waits None = false
read_waits (Some pieces) = not (names_status pieces)

-- It waits for success: there is none, which is `success()`, or it names no status function, and so is
-- `success() && (condition)`.
abbrev pub waits_for_success : Option (List ℕ) → Bool
waits_for_success None = true
waits_for_success (Some text) = read_waits (condition_read text)

-- it waits for success, and the status is none: then it is not evaluated
abbrev pub waits_in_vain : Option (List ℕ) → Status → Bool
waits_in_vain condition status = waits_for_success condition && not (is_success status)

-- ---- the texts of a step in the order in which they are evaluated: the variables of the workflow, the job and the
-- step, the condition, and then what the step does

-- by what the condition comes to
abbrev pub text_after_condition : Result Bool ValueFault → StepText
text_after_condition (Ok holds) = StepText.Work
text_after_condition (Err fault) = StepText.Condition

-- by the variables of the step
abbrev pub text_after_step : LegAt → StepPlan → Result Env ValueFault → StepText
text_after_step at step (Ok env) =
    text_after_condition (condition_value (seen_from at TextPlace.StepCondition env) (leg_status at) step.condition)
text_after_step at step (Err fault) = StepText.StepEnv

-- by the variables of the workflow and the job
abbrev pub text_after_job : LegAt → StepPlan → Result Env ValueFault → StepText
text_after_job at step (Ok env) = text_after_step at step (step_variables_over (seen_from at) step (set_over at.leg.steps env))
text_after_job at step (Err fault) = StepText.JobEnv

-- by the variables of the workflow
abbrev pub text_after_flow : LegAt → StepPlan → Result Env ValueFault → StepText
text_after_flow at step (Ok env) = text_after_job at step (job_variables_over (seen_from at) at.job_plan env)
text_after_flow at step (Err fault) = StepText.FlowEnv

-- the first text of a step that has no value, where one of them has none
abbrev pub faulted_text : LegAt → StepPlan → StepText
faulted_text at step = text_after_flow at step (flow_env at)
