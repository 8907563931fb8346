-- The shell and the directory of scripts: a step's own, else the job's default, else the workflow's.
use Rattle.std.specs.Prelude.{ℕ, List, codes, map, Option, Some, None, Ok, ⊤}
use Rattle.serde_json.specs.Data.{Data}
use Rattle.flow_model.specs.declared.flow.FlowJob.{FlowJob}
use Rattle.flow_model.specs.declared.flow.Workflow.{Workflow}
use Rattle.flow_model.specs.declared.plan.Shell.{Shell}
use Rattle.flow_model.specs.declared.plan.Shell.TheVariants.{Default, Sh, Bash}
use Rattle.flow_model.specs.declared.plan.StepPlan.{StepPlan}
use Rattle.flow_model.specs.declared.plan.Work.{Work}
use Rattle.flow_model.specs.declared.plan.Work.TheVariants.{Run, Uses}
use Rattle.flow_reader.specs.Checked.{Checked, both, made, optional, defaulted, in_object}
use Rattle.flow_reader.specs.Parts.{text_of, shell_of}
use Rattle.flow_reader.specs.declared.defaults.Defaults.{Defaults}

-- nothing by default
abbrev pub no_defaults : Defaults
no_defaults = record { dir = None; shell = Default }

abbrev pub defaults_from : Shell × (Option (List ℕ) × ⊤) → Defaults
defaults_from (shell, (dir, _)) = record { shell = shell; dir = dir }

-- the shell and the directory that are named
unfoldable pub place_of : Data → Checked Defaults
place_of d =
    made defaults_from (in_object (λ o. both (defaulted Default shell_of (codes "shell") o) (both (optional text_of (codes "working-directory") o) (Ok tt))) d)

abbrev pub first_of_pair : Defaults × ⊤ → Defaults
first_of_pair x = x.0

-- the defaults for scripts
unfoldable pub defaults_of : Data → Checked Defaults
defaults_of d = made first_of_pair (in_object (λ o. both (defaulted no_defaults place_of (codes "run") o) (Ok tt)) d)

-- the directory that is named, or else the default
abbrev pub dir_or : Option (List ℕ) → Option (List ℕ) → Option (List ℕ)
dir_or None other = other
dir_or (Some dir) other = Some dir

-- the shell that is named, or else the default
abbrev pub shell_or : Shell → Shell → Shell
shell_or Default other = other
shell_or Sh other = Sh
shell_or Bash other = Bash

-- what a step does, with the defaults where its script names no shell or directory
abbrev pub filled_work : Defaults → Work → Work
filled_work defaults (Run dir run shell) = Run (dir_or dir defaults.dir) run (shell_or shell defaults.shell)
filled_work defaults (Uses uses given) = Uses uses given

-- the same of a step
abbrev pub filled_step : Defaults → StepPlan → StepPlan
filled_step defaults s = record {
  condition = s.condition;
  env = s.env;
  id = s.id;
  name = s.name;
  tolerate = s.tolerate;
  work = filled_work defaults s.work;
}

-- the same of all steps
abbrev pub filled_steps : Defaults → List StepPlan → List StepPlan
filled_steps defaults steps = map (filled_step defaults) steps

-- the steps of a job, with the defaults of the workflow
abbrev pub filled_job : Defaults → FlowJob → FlowJob
filled_job defaults j = record {
  condition = j.condition;
  env = j.env;
  fail_fast = j.fail_fast;
  group = j.group;
  id = j.id;
  matrix = j.matrix;
  max_parallel = j.max_parallel;
  name = j.name;
  needs = j.needs;
  outputs = j.outputs;
  steps = filled_steps defaults j.steps;
  tolerate = j.tolerate;
}

-- the same of all jobs
abbrev pub filled_jobs : Defaults → List FlowJob → List FlowJob
filled_jobs defaults jobs = map (filled_job defaults) jobs

-- the workflow whose jobs have its defaults
abbrev pub filled_workflow : Defaults → Workflow → Workflow
filled_workflow defaults w = record {
  env = w.env;
  events = w.events;
  group = w.group;
  jobs = filled_jobs defaults w.jobs;
  name = w.name;
}
