-- What is decided by the texts of a plan: conditions, environments, the texts of a call, flags, outputs and
-- groups. The rows of the table say only what follows from it.
use Rattle.std.specs.Prelude.{ℕ, ◌&&◌, ◌||◌, Bool, true, false, not, List, [], ◌∷◌, map, length, Option, Some, None, Result, Ok, Err, if◌then◌else◌}
use Rattle.std.specs.List.{list_any}
use Rattle.plan_values.specs.Words.{CallWork, Contexts, DoneStep, Env, Group, JobPlan, Outcome, RunPlan, Status, StepCall, StepPlan, ValueFault, Values, Work, condition_value, contexts_at, env_value, flag_value, fold, laid_over, outputs_value, text_text, with_env}
use Rattle.board_decisions.specs.Contexts.{overlaid, run_values, job_values, job_of, leg_values_by}
use Rattle.board_decisions.specs.Derived.{is_failure, has_failed}
use Rattle.board_decisions.specs.Place.{RunAt, JobAt, LegAt}
use Rattle.board_decisions.specs.declared.entrance.Entrance.{Entrance}
use Rattle.plan_values.specs.declared.place.TextPlace.{TextPlace}

-- What follows from a value, unless there was a fault.
abbrev pub then_value : {A B : Type 0} → Result A ValueFault → (A → Result B ValueFault) → Result B ValueFault
then_value (Ok x) next = next x
then_value (Err f) next = Err f

-- ---- conditions of jobs, and the status of a leg

-- The value of a job's condition under a status.
unfoldable pub job_condition : JobAt → Status → Result Bool ValueFault
job_condition at s =
    condition_value (contexts_at TextPlace.JobCondition (with_env [] (job_values at))) s at.plan.condition

-- A condition that gives true; a fault does not.
abbrev pub is_true : Result Bool ValueFault → Bool
is_true (Ok b) = b
is_true (Err fault) = false

-- A leg is to stop whatever its job's condition where it was told
-- to, or where its job fails fast and a leg of it has failed.
abbrev pub stops_anyway : LegAt → Bool
stops_anyway at = at.leg.stop || (at.job_plan.fail_fast && list_any (λ leg. has_failed leg.state) at.job.legs)

-- A leg is to stop so; or where its run was told to and the
-- job's condition does not give true as that of a cancelled one.
abbrev pub is_stopping : LegAt → Bool
is_stopping at =
    stops_anyway at || (at.run.stop && not (is_true (job_condition (job_of at) Status.Cancelled)))

-- How a leg counts so far: cancelled where it is to stop, else failure where a done step counts as one.
abbrev pub leg_result : LegAt → Outcome
leg_result at =
    if is_stopping at then Outcome.Cancelled
    else (if list_any (λ step. is_failure step.conclusion) at.leg.steps then Outcome.Failure
    else Outcome.Success)

-- A result as a status.
abbrev pub status_of : Outcome → Status
status_of Outcome.Success = Status.Success
status_of Outcome.Failure = Status.Failure
status_of Outcome.Cancelled = Status.Cancelled
status_of Outcome.Skipped = Status.Other

-- The status of a leg.
abbrev pub leg_status : LegAt → Status
leg_status at = status_of (leg_result at)

-- The value of each context, seen from a leg.
unfoldable pub leg_values : LegAt → Values
leg_values at = leg_values_by (leg_result at) at

-- ---- what a place sees

-- What each place sees from somewhere, where `env` is these variables.
abbrev pub Sight : Type 0
Sight = TextPlace → Env → Contexts

-- What is seen of values at each place.
abbrev pub sight : Values → Sight
sight values spot env = contexts_at spot (with_env env values)

-- What each place sees from a leg.
abbrev pub seen_from : LegAt → Sight
seen_from at = sight (leg_values at)

-- ---- environments

-- The variables of the workflow.
abbrev pub flow_variables : Sight → RunPlan → Result Env ValueFault
flow_variables sees run = env_value (sees TextPlace.WorkflowEnv []) run.env

-- The variables of the job over others.
abbrev pub job_variables_over : Sight → JobPlan → Env → Result Env ValueFault
job_variables_over sees job below =
    then_value (env_value (sees TextPlace.JobEnv []) job.env) (λ above. Ok (laid_over above below))

-- The variables of the workflow, and those of the job over them.
abbrev pub job_variables : Sight → RunPlan → JobPlan → Result Env ValueFault
job_variables sees run job = then_value (flow_variables sees run) (job_variables_over sees job)

-- What done steps set over other variables, each over those before it (GitHub Docs, "Workflow commands": setting an
-- environment variable).
abbrev pub set_over : List DoneStep → Env → Env
set_over done below = overlaid (map (λ step. step.env) done) below

-- The variables of a job, and over them what the done steps of a leg set.
abbrev pub leg_variables : Sight → RunPlan → JobPlan → List DoneStep → Result Env ValueFault
leg_variables sees run job done = then_value (job_variables sees run job) (λ below. Ok (set_over done below))

-- The variables of a step over others, which its own texts see.
abbrev pub step_variables_over : Sight → StepPlan → Env → Result Env ValueFault
step_variables_over sees step below =
    then_value (env_value (sees TextPlace.StepEnv below) step.env) (λ above. Ok (laid_over above below))

-- The variables of a leg, and those of a step over them.
abbrev pub step_variables : Sight → RunPlan → JobPlan → List DoneStep → StepPlan → Result Env ValueFault
step_variables sees run job done step = then_value (leg_variables sees run job done) (step_variables_over sees step)

-- The variables of each level, seen from a leg on a board.
unfoldable pub flow_env : LegAt → Result Env ValueFault
flow_env at = flow_variables (seen_from at) at.run_plan

unfoldable pub job_env : LegAt → Result Env ValueFault
job_env at = job_variables (seen_from at) at.run_plan at.job_plan

unfoldable pub leg_env : LegAt → Result Env ValueFault
leg_env at = leg_variables (seen_from at) at.run_plan at.job_plan at.leg.steps

unfoldable pub step_env : LegAt → StepPlan → Result Env ValueFault
step_env at = step_variables (seen_from at) at.run_plan at.job_plan at.leg.steps

-- The variables, and none where there is a fault.
abbrev pub or_none : Result Env ValueFault → Env
or_none (Ok env) = env
or_none (Err f) = []

-- ---- what beginning a step comes to

-- The text of a working directory, where there is one.
abbrev pub directory_value : Contexts → Option (List ℕ) → Result (Option (List ℕ)) ValueFault
directory_value c None = Ok None
directory_value c (Some dir) = then_value (text_text c dir) (λ bytes. Ok (Some bytes))

-- What a call asks for: the script and then its directory,
-- or the inputs of an action in the order of their names.
unfoldable pub work_value : Contexts → Work → Result CallWork ValueFault
work_value c (Work.Run dir run shell) =
    then_value (text_text c run) (λ script.
    then_value (directory_value c dir) (λ there. Ok (CallWork.Script script shell there)))
work_value c (Work.Uses uses given) =
    then_value (env_value c given) (λ inputs. Ok (CallWork.Uses uses inputs))

-- The call of a step of a leg, both by their numbers, whose variables are these.
abbrev pub call_of : Sight → ℕ → ℕ → StepPlan → Env → Result (Option StepCall) ValueFault
call_of sees l s step env =
    then_value (work_value (sees TextPlace.StepText env) step.work) (λ asked.
    Ok (Some (record { leg = l; step = s; work = asked; env = env })))

-- A step is called where its condition holds, and else not.
abbrev pub call_if : Sight → ℕ → ℕ → StepPlan → Env → Bool → Result (Option StepCall) ValueFault
call_if sees l s step env true = call_of sees l s step env
call_if sees l s step env false = Ok None

-- The call of the step after those that are done, or none where it is skipped: the variables first, then its condition
-- with the status of the leg, and then the texts of the call. The first fault is the answer.
unfoldable pub step_call :
    Sight → Status → RunPlan → JobPlan → ℕ → List DoneStep → StepPlan → Result (Option StepCall) ValueFault
step_call sees status run job l done step =
    then_value (step_variables sees run job done step) (λ env.
    then_value (condition_value (sees TextPlace.StepCondition env) status step.condition)
    (call_if sees l (length done) step env))

-- The call of a step of a leg on a board, likewise.
unfoldable pub step_decision : ℕ → LegAt → StepPlan → Result (Option StepCall) ValueFault
step_decision l at = step_call (seen_from at) (leg_status at) at.run_plan at.job_plan l at.leg.steps

-- A step is called, or not, or its texts have a fault.
abbrev pub is_called : Result (Option StepCall) ValueFault → Result Bool ValueFault
is_called (Ok None) = Ok false
is_called (Ok (Some call)) = Ok true
is_called (Err f) = Err f

-- ---- continue-on-error, and the outputs of a leg

-- A failure of a step may be passed over. Where its variables have a fault, it sees none.
unfoldable pub step_passes : Sight → RunPlan → JobPlan → List DoneStep → StepPlan → Bool
step_passes sees run job done step =
    flag_value (sees TextPlace.StepText (or_none (step_variables sees run job done step))) step.tolerate

unfoldable pub step_tolerates : LegAt → StepPlan → Bool
step_tolerates at = step_passes (seen_from at) at.run_plan at.job_plan at.leg.steps

-- A failure of a leg may be passed over.
abbrev pub job_passes : Sight → JobPlan → Bool
job_passes sees job = flag_value (sees TextPlace.JobGroup []) job.tolerate

unfoldable pub job_tolerates : LegAt → Bool
job_tolerates at = job_passes (seen_from at) at.job_plan

-- The outputs that a leg gives its job. Where its variables have a fault, they see none.
unfoldable pub outputs_of_leg : Sight → RunPlan → JobPlan → List DoneStep → Env
outputs_of_leg sees run job done =
    outputs_value (sees TextPlace.StepEnv (or_none (leg_variables sees run job done))) job.outputs

unfoldable pub leg_outputs : LegAt → Env
leg_outputs at = outputs_of_leg (seen_from at) at.run_plan at.job_plan at.leg.steps

-- ---- how a member enters its group

-- A group by its name and its cancel flag. An empty name is no group.
abbrev pub entrance : List ℕ → Bool → Option Entrance
entrance [] cancel = None
entrance (c ∷ cs) cancel = Some (record { name = c ∷ cs; cancel = cancel })

-- How a group is entered, if there is one: by the name that
-- its text gives, with A to Z as a to z, and its cancel flag.
abbrev pub entrance_value : Contexts → Option Group → Result (Option Entrance) ValueFault
entrance_value c None = Ok None
entrance_value c (Some group) =
    then_value (text_text c group.name) (λ name. Ok (entrance (fold name) (flag_value c group.cancel)))

-- How a run enters its workflow's group, if there is one.
unfoldable pub run_entrance : RunAt → Result (Option Entrance) ValueFault
run_entrance at =
    entrance_value (contexts_at TextPlace.WorkflowGroup (with_env [] (run_values at.plan))) at.plan.group

-- How a leg enters its job's group, if there is one.
unfoldable pub leg_entrance : LegAt → Result (Option Entrance) ValueFault
leg_entrance at = entrance_value (seen_from at TextPlace.JobGroup []) at.job_plan.group
