-- The rules of a workflow: of the names in it, of its values, and of what stands only once. Needs, texts that are
-- evaluated and the legs of a matrix have no rules here.
use Rattle.std.specs.Prelude.{ℕ, ◌≤◌, ◌&&◌, ◌||◌, Bool, true, false, not, List, length, map, IsTrue, codes}
use Rattle.std.specs.List.{list_all}
use Rattle.std.specs.List.Sorted.{IsStrictlySortedBy}
use Rattle.std.specs.Str.{bytes_eq}
use Rattle.std.specs.Ordering.{nat_cmp}
use Rattle.std.specs.Cmp.Lexicographic.{slice_cmp}
use Rattle.expr_reader.specs.Bytes.{is_blank}
use Rattle.flow_model.specs.Name.{is_id}
use Rattle.flow_model.specs.Plain.{Plain, null, truth, whole, text, list, map as map_value}
use Rattle.flow_model.specs.Rules.{all_there, are_distinct, is_limit, is_property, is_variable_name, is_whole, is_within, step_ids}
use Rattle.flow_model.specs.declared.flow.FlowJob.{FlowJob}
use Rattle.flow_model.specs.declared.flow.Workflow.{Workflow}
use Rattle.flow_model.specs.declared.plan.Matrix.{Matrix}
use Rattle.flow_model.specs.declared.plan.StepPlan.{StepPlan}
use Rattle.flow_model.specs.declared.plan.Work.{Work}
use Rattle.flow_model.specs.declared.plan.Work.TheVariants.{Run, Uses}

-- a text, a number in range, a truth value or null
abbrev pub is_spelled_scalar : Plain → Bool
is_spelled_scalar null = true
is_spelled_scalar (truth b) = true
is_spelled_scalar (whole z) = is_whole z
is_spelled_scalar (text t) = true
is_spelled_scalar (list vs) = false
is_spelled_scalar (map_value ms) = false

-- a variable of an environment
abbrev pub is_spelled_variable : List ℕ × Plain → Bool
is_spelled_variable p = is_variable_name p.0 && is_spelled_scalar p.1

-- an input of an action, whose name is free
abbrev pub is_spelled_input : List ℕ × Plain → Bool
is_spelled_input p = is_spelled_scalar p.1

-- an output of a job, which has a name like an id
abbrev pub is_named_output : List ℕ × List ℕ → Bool
is_named_output p = is_id p.0

-- the text of a condition is not blank
abbrev pub is_spelled_condition : List ℕ → Bool
is_spelled_condition t = not (is_blank t)

-- the inputs of an action are scalars
abbrev pub is_spelled_work : Work → Bool
is_spelled_work (Run dir run shell) = true
is_spelled_work (Uses uses given) = list_all is_spelled_input given

-- a step
abbrev pub is_flow_step : StepPlan → Bool
is_flow_step s =
    all_there is_spelled_condition s.condition && (list_all is_spelled_variable s.env && (all_there is_id s.id && is_spelled_work s.work))

-- steps, of which no two have one id
abbrev pub are_flow_steps : List StepPlan → Bool
are_flow_steps ss = list_all is_flow_step ss && are_distinct (step_ids ss)

-- the keys of a matrix that are no variables
abbrev pub is_matrix_key : List ℕ → Bool
is_matrix_key key = bytes_eq key (codes "include") || bytes_eq key (codes "exclude")

-- a variable of a matrix
abbrev pub is_matrix_variable : List ℕ × List Plain → Bool
is_matrix_variable v = not (is_matrix_key v.0) && list_all (is_within 100) v.1

-- an entry of a matrix
abbrev pub is_matrix_entry : List (List ℕ × Plain) → Bool
is_matrix_entry entry = list_all is_property entry

-- a matrix
abbrev pub is_flow_matrix : Matrix → Bool
is_flow_matrix m = list_all is_matrix_variable m.variables && (list_all is_matrix_entry m.exclude && list_all is_matrix_entry m.include)

-- a job
abbrev pub is_flow_job : FlowJob → Bool
is_flow_job j =
    is_id j.id && (all_there is_spelled_condition j.condition && (list_all is_spelled_variable j.env && (all_there is_flow_matrix j.matrix
    && (all_there is_limit j.max_parallel && (are_distinct j.needs && (list_all is_named_output j.outputs && are_flow_steps j.steps))))))

-- a workflow of at least one job, whose jobs stand in the byte order of their ids
pub record IsWorkflow (w : Workflow) : Type 0 where
  pub env : IsTrue (list_all is_spelled_variable w.env)
  pub some_job : 1 ≤ length w.jobs
  pub ids_ascend : IsStrictlySortedBy (slice_cmp nat_cmp) (map (λ j. j.id) w.jobs)
  pub jobs : IsTrue (list_all is_flow_job w.jobs)
