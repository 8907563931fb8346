-- A step of whose texts none is evaluated but its condition has no other fault: it is called where that holds.
use Rattle.std.proofs.Common.{◌≡◌, ℕ, Bool, true, false, List, Option, None, Some, Result, Ok, Err, length, refl, ap, sym, subst, ◌∙◌}
use Rattle.plan_values.specs.Words.{CallWork, Contexts, Env, HasNoFault, JobPlan, Outcome, Plain, RunPlan, Shell, Status, StepPlan, ValueFault, Work, condition_value, env_value, text_text}
use Rattle.board_decisions.specs.Calls.{AreCallsOf, Tells, called_as}
use Rattle.board_decisions.specs.Decisions.{then_value, step_env, seen_from, directory_value, work_value, call_if, step_call, step_decision, is_called, leg_result, leg_status, status_of}
use Rattle.board_decisions.specs.Own.{HasOwnEnv}
use Rattle.board_decisions.specs.declared.kept.Called.{Called}
use Rattle.board_decisions.specs.declared.kept.Called.TheVariants.{Yes, No, Unknown}
use Rattle.board_decisions.specs.declared.kept.Calls.{Calls}
use Rattle.board_decisions.specs.Place.{LegAt}
use Rattle.plan_values.specs.declared.place.TextPlace.{TextPlace}

then_none : {A B : Type 0} (r : Result A ValueFault) (next : A → Result B ValueFault) → HasNoFault r → ((x : A) → HasNoFault (next x)) → HasNoFault (then_value r next)
then_none (Ok x) next h k = k x
then_none (Err fault) next h k = absurd h

-- A directory that has no fault.
pub no_directory : (c : Contexts) → HasNoFault (directory_value c None)
no_directory c = tt

pub some_directory : (c : Contexts) (dir : List ℕ) → HasNoFault (text_text c dir) → HasNoFault (directory_value c (Some dir))
some_directory c dir h = then_none (text_text c dir) (λ bytes. Ok (Some bytes)) h (λ bytes. tt)

-- A script whose text and directory have none.
pub own_script : (c : Contexts) (dir : Option (List ℕ)) (run : List ℕ) (shell : Shell) → HasNoFault (text_text c run) → HasNoFault (directory_value c dir) → HasNoFault (work_value c (Work.Run dir run shell))
unfolding work_value
own_script c dir run shell h k = then_none (text_text c run) _ h (λ script. then_none (directory_value c dir) _ k (λ there. tt))

-- An action whose inputs have none.
pub own_action : (c : Contexts) (uses : List ℕ) (given : List (List ℕ × Plain)) → HasNoFault (env_value c given) → HasNoFault (work_value c (Work.Uses uses given))
unfolding work_value
own_action c uses given h = then_none (env_value c given) _ h (λ inputs. tt)

-- Whatever the contexts are, the variables of no level have a fault, and neither has what the call asks for.
record IsOwnStep (at : LegAt) (step : StepPlan) : Type 0 where
  flow : (c : Contexts) → HasNoFault (env_value c at.run_plan.env)
  job : (c : Contexts) → HasNoFault (env_value c at.job_plan.env)
  own : (c : Contexts) → HasNoFault (env_value c step.env)
  work : (c : Contexts) → HasNoFault (work_value c step.work)

own_env : (at : LegAt) (step : StepPlan) → IsOwnStep at step → HasNoFault (step_env at step)
unfolding step_env
own_env at step own =
    then_none _ _ (then_none _ _ (then_none _ _ (own.flow _) (λ below. then_none _ _ (own.job _) (λ above. tt))) (λ below. tt))
    (λ below. then_none _ _ (own.own _) (λ above. tt))

called_by : (l : ℕ) (at : LegAt) (step : StepPlan) (env : Env) (holds : Bool) → IsOwnStep at step → is_called (call_if (seen_from at) l (length at.leg.steps) step env holds) ≡ Ok holds
called_by l at step env false own = refl
called_by l at step env true own = by_work (work_value (seen_from at TextPlace.StepText env) step.work) (own.work _)
  where
    by_work : (r : Result CallWork ValueFault) → HasNoFault r → is_called (then_value r (λ asked. Ok (Some (record { leg = l; step = length at.leg.steps; work = asked; env = env })))) ≡ Ok true
    by_work (Ok asked) h = refl
    by_work (Err fault) h = absurd h

-- It is called where its condition holds, and is skipped else, if that has a value whatever the contexts are.
own_step : (l : ℕ) (at : LegAt) (step : StepPlan) (holds : Bool) → IsOwnStep at step
    → ((c : Contexts) → condition_value c (leg_status at) step.condition ≡ Ok holds) → is_called (step_decision l at step) ≡ Ok holds
unfolding step_decision step_call step_env
own_step l at step holds own held = by_env (step_env at step) (own_env at step own)
  where
    by_env : (r : Result Env ValueFault) → HasNoFault r
        → is_called (then_value r (λ env. then_value (condition_value (seen_from at TextPlace.StepCondition env) (leg_status at) step.condition) (call_if (seen_from at) l (length at.leg.steps) step env))) ≡ Ok holds
    by_env (Ok env) h =
        ap (λ (r : Result Bool ValueFault). is_called (then_value r (call_if (seen_from at) l (length at.leg.steps) step env))) (held (seen_from at TextPlace.StepCondition env))
        ∙ called_by l at step env holds own
    by_env (Err fault) h = absurd h

-- What is told of its condition, whatever the contexts are, is told of whether it is called.
told_called : (l : ℕ) (at : LegAt) (step : StepPlan) (called : Called) → IsOwnStep at step
    → ((c : Contexts) → Tells called (condition_value c (leg_status at) step.condition)) → Tells called (is_called (step_decision l at step))
told_called l at step Yes own held = own_step l at step true own held
told_called l at step No own held = own_step l at step false own held
told_called l at step Unknown own held = tt

-- What is told of its condition by each status is told of whether it is called, by how its leg counts.
pub calls_told : (run : RunPlan) (job : JobPlan) (step : StepPlan) (calls : Calls) → HasOwnEnv run job → ((c : Contexts) → HasNoFault (env_value c step.env))
    → ((c : Contexts) → HasNoFault (work_value c step.work)) → ((c : Contexts) → Tells calls.success (condition_value c Status.Success step.condition))
    → ((c : Contexts) → Tells calls.failure (condition_value c Status.Failure step.condition))
    → ((c : Contexts) → Tells calls.cancelled (condition_value c Status.Cancelled step.condition)) → AreCallsOf run job step calls
calls_told run job step calls outer own asks succeeds fails cancels l at in_run in_job = by_result (leg_result at) refl
  where
    is_own : IsOwnStep at step
    is_own = record {
      flow = λ c. subst (λ (r : RunPlan). HasNoFault (env_value c r.env)) (sym in_run) (outer.flow c);
      job = λ c. subst (λ (j : JobPlan). HasNoFault (env_value c j.env)) (sym in_job) (outer.job c);
      own = own;
      work = asks;
    }

    told : (called : Called) (how : Outcome) → leg_result at ≡ how → ((c : Contexts) → Tells called (condition_value c (status_of how) step.condition))
        → Tells called (is_called (step_decision l at step))
    told called how is held = told_called l at step called is_own (λ c. subst (λ (s : Status). Tells called (condition_value c s step.condition)) (sym (ap status_of is)) (held c))

    by_result : (how : Outcome) → leg_result at ≡ how → Tells (called_as calls how) (is_called (step_decision l at step))
    by_result Outcome.Success is = told calls.success Outcome.Success is succeeds
    by_result Outcome.Failure is = told calls.failure Outcome.Failure is fails
    by_result Outcome.Cancelled is = told calls.cancelled Outcome.Cancelled is cancels
    by_result Outcome.Skipped is = tt
