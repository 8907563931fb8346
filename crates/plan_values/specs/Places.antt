-- The contexts that each place of a plan sees (GitHub Docs, "Contexts reference": context availability).
use Rattle.std.specs.Prelude.{Bool, not, List, [], ◌∷◌, ◌++◌, filter}
use Rattle.std.specs.List.{list_any}
use Rattle.expr_reader.specs.declared.tree.Context.{Context}
use Rattle.expr_reader.specs.declared.tree.Context.TheVariants.{Github, Env, Vars, Job, Steps, Secrets, Strategy, Matrix, Needs, Inputs}
use Rattle.expr_value.specs.Named.{is_same_context}
use Rattle.plan_values.specs.declared.place.TextPlace.{TextPlace}
use Rattle.plan_values.specs.declared.place.TextPlace.TheVariants as place

-- A workflow's group and its cancel flag see what the run was handed but for the secrets.
abbrev pub workflow_group : List Context
workflow_group = Github ∷ Inputs ∷ Vars ∷ []

-- A job's condition sees these and the jobs that it needs.
abbrev pub job_condition : List Context
job_condition = workflow_group ++ (Needs ∷ [])

-- A job's group, its cancel flag and its continue-on-error see these and the leg's place in the matrix.
abbrev pub job_group : List Context
job_group = job_condition ++ (Strategy ∷ Matrix ∷ [])

-- A workflow's env sees what the run was handed.
abbrev pub workflow_env : List Context
workflow_env = workflow_group ++ (Secrets ∷ [])

-- A job's env sees these, the jobs that it needs and the leg's place in the matrix.
abbrev pub job_env : List Context
job_env = workflow_env ++ (Needs ∷ Strategy ∷ Matrix ∷ [])

-- A step's env and a job's outputs see these, the job, its steps and env.
abbrev pub step_env : List Context
step_env = job_env ++ (Job ∷ Steps ∷ Env ∷ [])

-- A step's condition sees the same but for the secrets.
abbrev pub step_condition : List Context
step_condition = filter (λ x. not (is_same_context Secrets x)) step_env

-- A step's texts and its continue-on-error see the same contexts as its env, where `env` then has the
-- variables of all levels: the workflow's, the job's, what done steps set, and the step's own.
abbrev pub step_text : List Context
step_text = step_env

-- The contexts that a place sees; the others are empty maps there.
abbrev pub seen_at : TextPlace → List Context
seen_at place.WorkflowGroup = workflow_group
seen_at place.JobCondition = job_condition
seen_at place.JobGroup = job_group
seen_at place.WorkflowEnv = workflow_env
seen_at place.JobEnv = job_env
seen_at place.StepEnv = step_env
seen_at place.StepCondition = step_condition
seen_at place.StepText = step_text

-- The place sees the context.
abbrev pub sees : TextPlace → Context → Bool
sees place context = list_any (is_same_context context) (seen_at place)
