-- The rules of a plan: of its document, and the limits. A plan is one where none of them is broken. Every condition in it is
-- read as a condition, and every other text that is evaluated as a template.
use Rattle.std.specs.Prelude.{◌≡◌, ℕ, ℤ, pos, negsuc, suc, ◌+◌, ◌-◌, ◌==◌, ◌&&◌, Bool, true, false, not, nat_le, nat_lt, List, [], ◌∷◌, length, map, sum_by, codes, Option, Some, None, decimal}
use Rattle.std.specs.List.{list_all, list_any}
use Rattle.std.specs.Str.{bytes_eq}
pub use Rattle.expr_reader.specs.Accepts.{is_template, is_condition}
pub use Rattle.expr_reader.specs.Number.{greatest}
use Rattle.flow_model.specs.Plain.{Plain, null, truth, whole, text, list, map as map_value, Items, no_items, item, Members, no_members, member}
use Rattle.flow_model.specs.Name.{is_id, is_one_of}
use Rattle.flow_model.specs.Found.{Path, rule, or_else, under, each, each_pair, if_there}
use Rattle.flow_model.specs.declared.plan.Plan.{Plan}
use Rattle.flow_model.specs.declared.plan.RunPlan.{RunPlan}
use Rattle.flow_model.specs.declared.plan.Group.{Group}
use Rattle.flow_model.specs.declared.plan.Flag.{Flag}
use Rattle.flow_model.specs.declared.plan.Flag.TheVariants.{Truth, Text}
use Rattle.flow_model.specs.declared.plan.Roots.{Roots}
use Rattle.flow_model.specs.declared.plan.JobPlan.{JobPlan}
use Rattle.flow_model.specs.declared.plan.StepPlan.{StepPlan}
use Rattle.flow_model.specs.declared.plan.Work.{Work}
use Rattle.flow_model.specs.declared.plan.Work.TheVariants.{Run, Uses}

-- ---- texts that are evaluated

-- a truth value that is spelled out, or a template
abbrev pub is_flag : Flag → Bool
is_flag (Truth b) = true
is_flag (Text t) = is_template t

-- a test of what may be missing
abbrev pub all_there : {T : Type 0} → (T → Bool) → Option T → Bool
all_there test None = true
all_there test (Some x) = test x

-- ---- values

-- in the range of whole numbers
abbrev pub is_whole : ℤ → Bool
is_whole (pos n) = nat_le n greatest
is_whole (negsuc n) = nat_lt n greatest

abbrev mutual
  -- a value nests at most so deep, and its numbers are in range: a scalar nests 0 deep, a list or map
  -- one deeper than its deepest part, and an empty one 1
  pub is_within : ℕ → Plain → Bool
  is_within room null = true
  is_within room (truth b) = true
  is_within room (whole z) = is_whole z
  is_within room (text t) = true
  is_within room (list vs) = nat_lt 0 room && items_within (room - 1) vs
  is_within room (map_value ms) = nat_lt 0 room && members_within (room - 1) ms

  -- the same of a list's items
  pub items_within : ℕ → Items → Bool
  items_within room no_items = true
  items_within room (item v vs) = is_within room v && items_within room vs

  -- the same of a map's members
  pub members_within : ℕ → Members → Bool
  members_within room no_members = true
  members_within room (member k v ms) = is_within room v && members_within room ms

-- a property of a context, or a variable of a combination
abbrev pub is_property : List ℕ × Plain → Bool
is_property p = is_within 100 p.1

-- a template, a number, a truth value or null
abbrev pub is_scalar : Plain → Bool
is_scalar null = true
is_scalar (truth b) = true
is_scalar (whole z) = is_whole z
is_scalar (text t) = is_template t
is_scalar (list vs) = false
is_scalar (map_value ms) = false

-- neither `=` nor a zero byte
abbrev pub is_variable_byte : ℕ → Bool
is_variable_byte b = not (is_one_of (codes "=") b) && not (b == 0)

-- the name of a variable of an environment is not empty, and has no `=` and no zero byte
abbrev pub is_variable_name : List ℕ → Bool
is_variable_name name = nat_lt 0 (length name) && list_all is_variable_byte name

-- a variable of an environment
abbrev pub is_variable : List ℕ × Plain → Bool
is_variable p = is_variable_name p.0 && is_scalar p.1

-- an input of an action: its name is free
abbrev pub is_input : List ℕ × Plain → Bool
is_input p = is_scalar p.1

-- an output of a job: a name like an id, and a template
abbrev pub is_job_output : List ℕ × List ℕ → Bool
is_job_output p = is_id p.0 && is_template p.1

-- ---- the parts of a plan

-- no id stands twice
abbrev pub are_distinct : List (List ℕ) → Bool
are_distinct [] = true
are_distinct (id ∷ ids) = not (list_any (bytes_eq id) ids) && are_distinct ids

-- numbers that ascend strictly, from low on and below high
abbrev pub ascend_between : ℕ → ℕ → List ℕ → Bool
ascend_between low high [] = true
ascend_between low high (n ∷ ns) = nat_le low n && nat_lt n high && ascend_between (suc n) high ns

-- the rules of a script and its directory
abbrev pub script_rules : Option (List ℕ) → List ℕ → Option Path
script_rules dir run = or_else (rule (codes "dir") (all_there is_template dir)) (rule (codes "run") (is_template run))

-- the rules of what a step does
abbrev pub work_rules : Work → Option Path
work_rules (Run dir run shell) = script_rules dir run
work_rules (Uses uses given) = under (codes "with") (each_pair is_input given)

-- the rule of the condition of a step or a job, if there is one
abbrev pub condition_rule : Option (List ℕ) → Option Path
condition_rule t = rule (codes "condition") (all_there is_condition t)

-- the rules of a step
abbrev pub step_rules : StepPlan → Option Path
step_rules s =
    or_else (rule (codes "condition") (all_there is_condition s.condition))
    (or_else (under (codes "env") (each_pair is_variable s.env))
    (or_else (rule (codes "id") (all_there is_id s.id))
    (or_else (rule (codes "tolerate") (is_flag s.tolerate))
    (under (codes "work") (work_rules s.work)))))

-- the rules of a concurrency group
abbrev pub group_rules : Group → Option Path
group_rules g = or_else (rule (codes "cancel") (is_flag g.cancel)) (rule (codes "name") (is_template g.name))

-- the rules of a combination
abbrev pub leg_rules : List (List ℕ × Plain) → Option Path
leg_rules combo = each_pair is_property combo

-- an id before others, if there is one
abbrev pub with_id : Option (List ℕ) → List (List ℕ) → List (List ℕ)
with_id None ids = ids
with_id (Some id) ids = id ∷ ids

-- the ids that steps have
abbrev pub step_ids : List StepPlan → List (List ℕ)
step_ids [] = []
step_ids (s ∷ ss) = with_id s.id (step_ids ss)

-- the rules of the steps of a job: 0 to 256, of distinct ids
abbrev pub steps_rules : List StepPlan → Option Path
steps_rules steps =
    or_else (rule (codes "steps") (nat_le (length steps) 256))
    (or_else (rule (codes "steps") (are_distinct (step_ids steps)))
    (under (codes "steps") (each step_rules 0 steps)))

-- a limit of the legs that are under way: from 1
abbrev pub is_limit : ℕ → Bool
is_limit n = nat_le 1 n && nat_le n greatest

-- the rules of a job's legs: 1 to 256, and a limit from 1
abbrev pub legs_rules : JobPlan → Option Path
legs_rules j =
    or_else (rule (codes "legs") (nat_le 1 (length j.legs) && nat_le (length j.legs) 256))
    (or_else (under (codes "legs") (each leg_rules 0 j.legs))
    (rule (codes "max_parallel") (all_there is_limit j.max_parallel)))

-- The rules of a job that stands at this place among all jobs of the plan, where its run's first job has
-- the number `first`: it needs only jobs of its run that stand before it.
abbrev pub job_rules : ℕ → ℕ → JobPlan → Option Path
job_rules first number j =
    or_else (rule (codes "condition") (all_there is_condition j.condition))
    (or_else (under (codes "env") (each_pair is_variable j.env))
    (or_else (under (codes "group") (if_there group_rules j.group))
    (or_else (rule (codes "id") (is_id j.id))
    (or_else (legs_rules j)
    (or_else (rule (codes "needs") (ascend_between first number j.needs))
    (or_else (rule (codes "number") (j.number == number))
    (or_else (under (codes "outputs") (each_pair is_job_output j.outputs))
    (or_else (steps_rules j.steps)
    (rule (codes "tolerate") (is_flag j.tolerate))))))))))

-- the rules of the job at this place of its run, seen from the run's jobs
abbrev pub job_rules_at : ℕ → ℕ → JobPlan → Option Path
job_rules_at first place j = under (decimal place) (job_rules first (first + place) j)

-- the rules of a run's jobs from place k on
abbrev pub jobs_rules : ℕ → ℕ → List JobPlan → Option Path
jobs_rules first k [] = None
jobs_rules first k (j ∷ js) = or_else (under (decimal k) (job_rules first (first + k) j)) (jobs_rules first (suc k) js)

-- the ids of jobs
abbrev pub job_ids : List JobPlan → List (List ℕ)
job_ids jobs = map (λ j. j.id) jobs

-- the rules of the contexts that a run is handed
abbrev pub roots_rules : Roots → Option Path
roots_rules r =
    or_else (under (codes "github") (each_pair is_property r.github))
    (or_else (under (codes "inputs") (each_pair is_property r.inputs))
    (or_else (under (codes "secrets") (each_pair is_property r.secrets))
    (under (codes "vars") (each_pair is_property r.vars))))

-- the rules of a run whose first job has the number `first`: 1 to 256 jobs of distinct ids
abbrev pub run_rules : ℕ → RunPlan → Option Path
run_rules first r =
    or_else (under (codes "env") (each_pair is_variable r.env))
    (or_else (under (codes "group") (if_there group_rules r.group))
    (or_else (rule (codes "jobs") (nat_le 1 (length r.jobs) && nat_le (length r.jobs) 256))
    (or_else (rule (codes "jobs") (are_distinct (job_ids r.jobs)))
    (or_else (under (codes "jobs") (jobs_rules first 0 r.jobs))
    (under (codes "roots") (roots_rules r.roots))))))

-- the rules of the runs from place k on, where the first of their jobs has the number `first`
abbrev pub runs_rules : ℕ → ℕ → List RunPlan → Option Path
runs_rules first k [] = None
runs_rules first k (r ∷ rs) = or_else (under (decimal k) (run_rules first r)) (runs_rules (first + length r.jobs) (suc k) rs)

-- how many legs the jobs have
abbrev pub legs_of_jobs : List JobPlan → ℕ
legs_of_jobs jobs = sum_by (λ j. length j.legs) jobs

-- how many legs the runs have
abbrev pub legs_of_runs : List RunPlan → ℕ
legs_of_runs runs = sum_by (λ r. legs_of_jobs r.jobs) runs

-- The path of a plan's first broken rule: 1 to 64 runs, the rules of each, and at most 4,096 legs.
abbrev pub plan_rules : Plan → Option Path
plan_rules p =
    or_else (rule (codes "runs") (nat_le 1 (length p.runs) && nat_le (length p.runs) 64))
    (or_else (under (codes "runs") (runs_rules 0 0 p.runs))
    (rule (codes "runs") (nat_le (legs_of_runs p.runs) 4096)))

-- no rule is broken
abbrev pub IsPlan : Plan → Type 0
IsPlan p = plan_rules p ≡ None
