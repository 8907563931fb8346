-- The texts of a workflow that are evaluated, and the first of them that cannot be read.
use Rattle.std.specs.Prelude.{◌≡◌, ℕ, List, [], ◌∷◌, Option, Some, None, Result, Ok, Err, IfSome, if◌then◌else◌}
use Rattle.std.specs.List.{prefix_len}
use Rattle.expr_reader.specs.Accepts.{is_template, is_condition}
use Rattle.expr_reader.specs.Bytes.{is_white}
use Rattle.expr_reader.specs.Faults.{fault_at}
use Rattle.expr_reader.specs.Reading.{Failure}
use Rattle.expr_reader.specs.Template.{trimmed}
use Rattle.expr_reader.specs.TemplateStands.{StandsInTemplate, StandsInTrimmed}
use Rattle.expr_reader.specs.declared.fault.ExprFault.{ExprFault}
use Rattle.flow_model.specs.Plain.{Plain, null, truth, whole, text, list, map}
use Rattle.flow_model.specs.declared.flow.FlowJob.{FlowJob}
use Rattle.flow_model.specs.declared.flow.Workflow.{Workflow}
use Rattle.flow_model.specs.declared.plan.Flag.{Flag}
use Rattle.flow_model.specs.declared.plan.Flag.TheVariants.{Truth, Text}
use Rattle.flow_model.specs.declared.plan.Group.{Group}
use Rattle.flow_model.specs.declared.plan.StepPlan.{StepPlan}
use Rattle.flow_model.specs.declared.plan.Work.{Work}
use Rattle.flow_model.specs.declared.plan.Work.TheVariants.{Run, Uses}

-- a text that is evaluated: as a template, or as a condition
pub data Evaluated : Type 0 where
  template : List ℕ → Evaluated
  condition : List ℕ → Evaluated

-- what was found of a fault stands in a text; want of memory, of which there is nothing to be found, stands nowhere
abbrev pub StandsAt : Evaluated → Option Failure → Type 0
StandsAt t None = ⊥
StandsAt (template t) (Some x) = StandsInTemplate t x
StandsAt (condition t) (Some x) = StandsInTrimmed (prefix_len is_white t) (trimmed t) x

-- a fault stands in a text
abbrev pub StandsIn : Evaluated → ExprFault → Type 0
StandsIn t fault = StandsAt t (fault_at fault)

-- ---- the first text of a part that cannot be read

-- of two searches the first that finds one
abbrev pub or_else : Option Evaluated → Option Evaluated → Option Evaluated
or_else None other = other
or_else (Some t) other = Some t

abbrev pub of_template : List ℕ → Option Evaluated
of_template t = if is_template t then None else Some (template t)

abbrev pub of_condition : List ℕ → Option Evaluated
of_condition t = if is_condition t then None else Some (condition t)

-- of what may be missing
abbrev pub if_there : {T : Type 0} → (T → Option Evaluated) → Option T → Option Evaluated
if_there of None = None
if_there of (Some x) = of x

-- of a list, item by item
abbrev pub of_each : {T : Type 0} → (T → Option Evaluated) → List T → Option Evaluated
of_each of [] = None
of_each of (x ∷ xs) = or_else (of x) (of_each of xs)

-- of a value of an environment: a text is a template
abbrev pub of_value : Plain → Option Evaluated
of_value null = None
of_value (truth b) = None
of_value (whole z) = None
of_value (text t) = of_template t
of_value (list vs) = None
of_value (map ms) = None

abbrev pub of_env : List (List ℕ × Plain) → Option Evaluated
of_env env = of_each (λ p. of_value p.1) env

abbrev pub of_outputs : List (List ℕ × List ℕ) → Option Evaluated
of_outputs outputs = of_each (λ p. of_template p.1) outputs

abbrev pub of_flag : Flag → Option Evaluated
of_flag (Truth b) = None
of_flag (Text t) = of_template t

abbrev pub of_group : Group → Option Evaluated
of_group g = or_else (of_flag g.cancel) (of_template g.name)

-- of what a step does: the name of an action is not evaluated
abbrev pub of_work : Work → Option Evaluated
of_work (Run dir run shell) = or_else (if_there of_template dir) (of_template run)
of_work (Uses uses given) = of_env given

abbrev pub of_step : StepPlan → Option Evaluated
of_step s = or_else (if_there of_condition s.condition) (or_else (of_env s.env) (or_else (of_flag s.tolerate) (of_work s.work)))

-- of a job and its steps
abbrev pub of_job : FlowJob → Option Evaluated
of_job j =
    or_else (if_there of_condition j.condition)
    (or_else (of_env j.env)
    (or_else (if_there of_group j.group)
    (or_else (of_outputs j.outputs)
    (or_else (of_flag j.tolerate)
    (of_each of_step j.steps)))))

-- of a workflow, without its jobs
abbrev pub of_workflow : Workflow → Option Evaluated
of_workflow w = or_else (of_env w.env) (if_there of_group w.group)

-- A text was found, and the fault stands in it.
abbrev pub StandsInFound : Option Evaluated → ExprFault → Type 0
StandsInFound None fault = ⊥
StandsInFound (Some t) fault = StandsIn t fault

-- A reading answers that no text was found, or a fault of the text that was; memory may run out besides.
abbrev pub Reads : Option Evaluated → Result (Unit {0}) ExprFault → Type 0
Reads found (Ok done) = found ≡ None
Reads found (Err fault) = IfSome (fault_at fault) (λ x. StandsInFound found fault)
