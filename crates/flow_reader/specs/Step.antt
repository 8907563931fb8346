-- The step that a JSON value stands for.
use Rattle.std.specs.Prelude.{ℕ, List, [], ◌∷◌, codes, Option, Some, None, Ok, Err, false, if◌then◌else◌, ⊤}
use Rattle.std.specs.List.{list_any}
use Rattle.std.specs.Str.{bytes_eq}
use Rattle.serde_json.specs.Data.{Data}
use Rattle.serde_json.specs.Find.{get}
use Rattle.flow_model.specs.Plain.{Plain}
use Rattle.flow_model.specs.Rules.{step_ids}
use Rattle.flow_model.specs.declared.plan.Flag.{Flag}
use Rattle.flow_model.specs.declared.plan.Flag.TheVariants.{Truth}
use Rattle.flow_model.specs.declared.plan.Shell.{Shell}
use Rattle.flow_model.specs.declared.plan.Shell.TheVariants.{Default}
use Rattle.flow_model.specs.declared.plan.StepPlan.{StepPlan}
use Rattle.flow_model.specs.declared.plan.Work.{Work}
use Rattle.flow_model.specs.declared.plan.Work.TheVariants.{Run, Uses}
use Rattle.flow_reader.specs.Checked.{Checked, bad, both, made, under, optional, defaulted, in_object, list_of}
use Rattle.flow_reader.specs.Defaults.{filled_work}
use Rattle.flow_reader.specs.Parts.{text_of, id_of, flag_of, condition_of, shell_of, env_of, inputs_of}
use Rattle.flow_reader.specs.declared.fault.FlowFault.TheVariants.{Missing, WrongShape, BadId}

-- a script at this key, without its shell and directory
abbrev pub script_of : List ℕ → Data → Checked Work
script_of key d = made (λ text. Run None text Default) (under key (text_of d))

-- an action with its inputs
abbrev pub action_in : Data → Data → Checked Work
action_in d o = made (λ x. Uses x.0 x.1) (both (under (codes "uses") (text_of d)) (defaulted [] inputs_of (codes "with") o))

-- a script or an action, and never both
unfoldable pub work_at : List ℕ → Option Data → Option Data → Data → Checked Work
work_at key None None o = bad (Missing key)
work_at key (Some run) None o = script_of key run
work_at key None (Some uses) o = action_in uses o
work_at key (Some run) (Some uses) o = bad (WrongShape [])

abbrev pub work_in : List ℕ → Data → Checked Work
work_in key o = work_at key (get key o) (get (codes "uses") o) o

-- the parts of a step, side by side, in the order of the keys in step_of
abbrev pub StepParts : Type 0
StepParts = Option (List ℕ) × (Option (List ℕ) × (Option (List ℕ) × (List (List ℕ × Plain) × (Flag × (Shell × (Option (List ℕ) × (Work × ⊤)))))))

-- the step that has these parts, with the shell and the directory that it names itself
abbrev pub step_from : StepParts → StepPlan
step_from (id, (name, (condition, (env, (tolerate, (shell, (dir, (work, _)))))))) = record {
  id = id;
  name = name;
  condition = condition;
  env = env;
  tolerate = tolerate;
  work = filled_work (record { shell = shell; dir = dir }) work;
}

-- a step
unfoldable pub step_of : Data → Checked StepPlan
step_of d =
    made step_from (in_object (λ o. both (optional id_of (codes "id") o) (both (optional text_of (codes "name") o)
    (both (defaulted None condition_of (codes "if") o) (both (defaulted [] env_of (codes "env") o)
    (both (defaulted (Truth false) flag_of (codes "continue-on-error") o) (both (defaulted Default shell_of (codes "shell") o)
    (both (optional text_of (codes "working-directory") o) (both (work_in (codes "run") o) (Ok tt))))))))) d)

-- no id stands again; the first one that does is bad
abbrev pub distinct : List (List ℕ) → Checked ⊤
distinct [] = Ok tt
distinct (id ∷ ids) = if list_any (bytes_eq id) ids then bad (BadId id) else distinct ids

-- steps of distinct ids
unfoldable pub with_distinct_ids : Checked (List StepPlan) → Checked (List StepPlan)
with_distinct_ids (Ok steps) = made (λ _. steps) (distinct (step_ids steps))
with_distinct_ids (Err faults) = Err faults

-- the steps of a job
unfoldable pub steps_of : Data → Checked (List StepPlan)
steps_of d = with_distinct_ids (list_of step_of d)
