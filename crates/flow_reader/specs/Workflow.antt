-- The workflow that a JSON value stands for, key by key, and its jobs.
use Rattle.std.specs.Prelude.{ℕ, List, [], codes, Option, Some, None, unwrap_or, Ok, false, if◌then◌else◌, ⊤}
use Rattle.serde_json.specs.Data.{Data, Members, no_members, member}
use Rattle.serde_json.specs.Find.{get, as_object}
use Rattle.flow_model.specs.Name.{is_id}
use Rattle.flow_model.specs.Plain.{Plain}
use Rattle.flow_model.specs.declared.flow.FlowJob.{FlowJob}
use Rattle.flow_model.specs.declared.flow.Workflow.{Workflow}
use Rattle.flow_model.specs.declared.plan.Flag.{Flag}
use Rattle.flow_model.specs.declared.plan.Flag.TheVariants.{Truth}
use Rattle.flow_model.specs.declared.plan.Group.{Group}
use Rattle.flow_model.specs.declared.plan.StepPlan.{StepPlan}
use Rattle.flow_reader.specs.Checked.{Checked, bad, both, made, under, optional, defaulted, required, absent, in_object, of_members, members_checked, keys_in}
use Rattle.flow_reader.specs.Defaults.{no_defaults, defaults_of, filled_steps, filled_jobs}
use Rattle.flow_reader.specs.Parts.{text_of, flag_of, condition_of, texts_of, needs_of, env_of, outputs_of, group_of}
use Rattle.flow_reader.specs.Step.{steps_of}
use Rattle.flow_reader.specs.Strategy.{no_strategy, strategy_of}
use Rattle.flow_reader.specs.declared.defaults.Defaults.{Defaults}
use Rattle.flow_reader.specs.declared.strategy.Strategy.{Strategy}
use Rattle.flow_reader.specs.declared.fault.FlowFault.TheVariants.{Missing, WrongShape, BadId}

-- ---- jobs

-- the parts of a job, side by side, in the order of the keys in job_parts_of
abbrev pub JobParts : Type 0
JobParts = Option (List ℕ) × (List (List ℕ) × (Option (List ℕ) × (Strategy × (Option Group × (Flag × (List (List ℕ × Plain)
    × (Defaults × (List (List ℕ × List ℕ) × (List StepPlan × ⊤)))))))))

-- the job that has these parts: the first three say nothing
abbrev pub job_from : List ℕ → (⊤ × (⊤ × (⊤ × JobParts))) → FlowJob
job_from id (_, (_, (_, (name, (needs, (condition, (strategy, (group, (tolerate, (env, (defaults, (outputs, (steps, _))))))))))))) = record {
  id = id;
  name = name;
  needs = needs;
  condition = condition;
  fail_fast = strategy.fail_fast;
  matrix = strategy.matrix;
  max_parallel = strategy.max_parallel;
  group = group;
  tolerate = tolerate;
  env = env;
  outputs = outputs;
  steps = filled_steps defaults steps;
}

-- the parts of a job besides its steps and the defaults of their scripts
abbrev pub JobRest : Type 0
JobRest = Option (List ℕ) × (List (List ℕ) × (Option (List ℕ) × (Strategy × (Option Group × (Flag × (List (List ℕ × Plain) × List (List ℕ × List ℕ)))))))

-- the job that has these steps and parts
abbrev pub job_with : List ℕ → List StepPlan → JobRest → FlowJob
job_with id steps (name, (needs, (condition, (strategy, (group, (tolerate, (env, outputs))))))) = record {
  id = id;
  name = name;
  needs = needs;
  condition = condition;
  fail_fast = strategy.fail_fast;
  matrix = strategy.matrix;
  max_parallel = strategy.max_parallel;
  group = group;
  tolerate = tolerate;
  env = env;
  outputs = outputs;
  steps = steps;
}

-- the keys of a job: those that are left out, and the others
unfoldable pub job_parts_of : Data → Checked (⊤ × (⊤ × (⊤ × JobParts)))
job_parts_of d =
    in_object (λ o. both (absent (codes "container") o) (both (absent (codes "services") o) (both (absent (codes "uses") o)
    (both (optional text_of (codes "name") o) (both (defaulted [] needs_of (codes "needs") o) (both (defaulted None condition_of (codes "if") o)
    (both (defaulted no_strategy strategy_of (codes "strategy") o) (both (optional group_of (codes "concurrency") o)
    (both (defaulted (Truth false) flag_of (codes "continue-on-error") o) (both (defaulted [] env_of (codes "env") o)
    (both (defaulted no_defaults defaults_of (codes "defaults") o) (both (defaulted [] outputs_of (codes "outputs") o)
    (both (required steps_of (codes "steps") o) (Ok tt)))))))))))))) d

-- a job that has this id
unfoldable pub job_of : List ℕ → Data → Checked FlowJob
job_of id d = made (job_from id) (job_parts_of d)

-- the job at an id
unfoldable pub job_at : List ℕ → Data → Checked FlowJob
job_at id d = if is_id id then under id (job_of id d) else bad (BadId id)

-- at least one job
unfoldable pub some_jobs : Members → Checked (List FlowJob)
some_jobs no_members = bad (WrongShape [])
some_jobs (member id d ms) = members_checked job_at (member id d ms)

-- the jobs, in the order of their ids
unfoldable pub jobs_of : Data → Checked (List FlowJob)
jobs_of d = of_members some_jobs d

-- ---- the workflow

-- the keys of an object, or else a text or a list of texts
abbrev pub events_at : Option Members → Data → Checked (List (List ℕ))
events_at (Some ms) d = Ok (keys_in ms)
events_at None d = texts_of d

-- the names of events
unfoldable pub events_of : Data → Checked (List (List ℕ))
events_of d = events_at (as_object d) d

-- what stands at the key, or else at the key `true`, which converters from YAML 1.1 write for `on`
unfoldable pub triggers_at : List ℕ → Option Data → Option Data → Checked (List (List ℕ))
triggers_at key (Some d) other = under key (events_of d)
triggers_at key None (Some d) = under (codes "true") (events_of d)
triggers_at key None None = bad (Missing key)

abbrev pub triggers_in : List ℕ → Data → Checked (List (List ℕ))
triggers_in key o = triggers_at key (get key o) (get (codes "true") o)

-- the parts of a workflow, side by side, in the order of the keys in workflow_parts_of
abbrev pub WorkflowParts : Type 0
WorkflowParts = Option (List ℕ) × (List (List ℕ) × (List (List ℕ × Plain) × (Defaults × (Option Group × (List FlowJob × ⊤)))))

-- the workflow that has these parts, where the file is this one
abbrev pub workflow_from : List ℕ → WorkflowParts → Workflow
workflow_from path (name, (events, (env, (defaults, (group, (jobs, _)))))) = record {
  name = unwrap_or name path;
  events = events;
  env = env;
  group = group;
  jobs = filled_jobs defaults jobs;
}

-- the keys of a workflow
unfoldable pub workflow_parts_of : Data → Checked WorkflowParts
workflow_parts_of d =
    in_object (λ o. both (optional text_of (codes "name") o) (both (triggers_in (codes "on") o)
    (both (defaulted [] env_of (codes "env") o) (both (defaulted no_defaults defaults_of (codes "defaults") o)
    (both (optional group_of (codes "concurrency") o) (both (required jobs_of (codes "jobs") o) (Ok tt))))))) d

-- the workflow that a value stands for, where the file is this one
unfoldable pub workflow_of : List ℕ → Data → Checked Workflow
workflow_of path d = made (workflow_from path) (workflow_parts_of d)
