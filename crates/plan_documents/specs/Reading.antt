-- The plan that a document stands for: each object with exactly its keys, each part as it should be.
use Rattle.std.specs.Prelude.{ℕ, codes, List, [], Bool, bytes_eq, if◌then◌else◌, Option, Ok, Err, ⊤}
use Rattle.serde_json.specs.Data.{Data, null, boolean, number, string, array, object, Members}
use Rattle.flow_model.specs.Plain.{Plain}
use Rattle.flow_model.specs.declared.plan.Flag.{Flag}
use Rattle.flow_model.specs.declared.plan.Flag.TheVariants.{Truth, Text}
use Rattle.flow_model.specs.declared.plan.Group.{Group}
use Rattle.flow_model.specs.declared.plan.JobPlan.{JobPlan}
use Rattle.flow_model.specs.declared.plan.Plan.{Plan}
use Rattle.flow_model.specs.declared.plan.Roots.{Roots}
use Rattle.flow_model.specs.declared.plan.RunPlan.{RunPlan}
use Rattle.flow_model.specs.declared.plan.Shell.{Shell}
use Rattle.flow_model.specs.declared.plan.Shell.TheVariants.{Default, Sh, Bash}
use Rattle.flow_model.specs.declared.plan.StepPlan.{StepPlan}
use Rattle.flow_model.specs.declared.plan.Work.{Work}
use Rattle.flow_model.specs.declared.plan.Work.TheVariants.{Run, Uses}
use Rattle.plan_documents.specs.Parts.{Reading, and_then, text_of, truth_of, number_of, plain_of, optional_of, list_of, map_of, field, no_more, object_of, word_of, has_word}
use Rattle.plan_documents.specs.Version.{version_of}
use Rattle.plan_documents.specs.declared.version.Version.{Version}

-- a truth value or a text
abbrev pub flag_of : Data → Reading Flag
flag_of null = Err []
flag_of (boolean b) = Ok (Truth b)
flag_of (number n) = Err []
flag_of (string t) = Ok (Text t)
flag_of (array ds) = Err []
flag_of (object ms) = Err []

-- a group, from the parts that were read
abbrev pub group_from : Flag × (List ℕ × ⊤) → Group
group_from x = record { cancel = x.0; name = x.1.0 }

-- a concurrency group
abbrev pub group_of : Data → Reading Group
group_of = object_of (field (codes "cancel") flag_of (field (codes "name") text_of no_more)) group_from

-- the values of a map
abbrev pub Values : Type 0
Values = List (List ℕ × Plain)

-- a map of values
abbrev pub values_of : Data → Reading Values
values_of = map_of plain_of

-- the roots, from the parts that were read
abbrev pub roots_from : Values × (Values × (Values × (Values × ⊤))) → Roots
roots_from x = record { github = x.0; inputs = x.1.0; secrets = x.1.1.0; vars = x.1.1.1.0 }

-- the contexts that a run is handed
abbrev pub roots_of : Data → Reading Roots
roots_of =
    object_of (field (codes "github") values_of (field (codes "inputs") values_of
    (field (codes "secrets") values_of (field (codes "vars") values_of no_more)))) roots_from

-- the shell of a word
abbrev pub shell_named : List ℕ → Reading Shell
shell_named word =
    if bytes_eq word (codes "default") then Ok Default else
    (if bytes_eq word (codes "sh") then Ok Sh else (if bytes_eq word (codes "bash") then Ok Bash else Err []))

-- a shell, by its word
abbrev pub shell_of : Data → Reading Shell
shell_of d = and_then shell_named (text_of d)

-- a script, from the parts that were read
abbrev pub script_from : Option (List ℕ) × (⊤ × (List ℕ × (Shell × ⊤))) → Work
script_from x = Run x.0 x.1.1.0 x.1.1.1.0

-- a script: work of the kind `run`
abbrev pub script_of : Data → Reading Work
script_of =
    object_of (field (codes "dir") (optional_of text_of) (field (codes "kind") (word_of (codes "run"))
    (field (codes "run") text_of (field (codes "shell") shell_of no_more)))) script_from

-- an action, from the parts that were read
abbrev pub action_from : ⊤ × (List ℕ × (Values × ⊤)) → Work
action_from x = Uses x.1.0 x.1.1.0

-- an action: work of the kind `uses`
abbrev pub action_of : Data → Reading Work
action_of = object_of (field (codes "kind") (word_of (codes "uses")) (field (codes "uses") text_of (field (codes "with") values_of no_more))) action_from

-- the kind decides
unfoldable pub work_of : Data → Reading Work
work_of d = if has_word (codes "kind") (codes "uses") d then action_of d else script_of d

-- a step, from the parts that were read
abbrev pub step_from : Option (List ℕ) × (Values × (Option (List ℕ) × (Option (List ℕ) × (Flag × (Work × ⊤))))) → StepPlan
step_from x = record { condition = x.0; env = x.1.0; id = x.1.1.0; name = x.1.1.1.0; tolerate = x.1.1.1.1.0; work = x.1.1.1.1.1.0 }

-- a step of a job
abbrev pub step_of : Data → Reading StepPlan
step_of =
    object_of (field (codes "condition") (optional_of text_of) (field (codes "env") values_of (field (codes "id") (optional_of text_of)
    (field (codes "name") (optional_of text_of) (field (codes "tolerate") flag_of (field (codes "work") work_of no_more)))))) step_from

-- what stands in a job from `name` on
abbrev pub JobTail : Type 0
JobTail = List ℕ × (List ℕ × (ℕ × (List (List ℕ × List ℕ) × (List StepPlan × (Flag × ⊤)))))

-- the members of a job from `name` on
unfoldable pub job_tail : Members → Reading JobTail
job_tail =
    field (codes "name") text_of (field (codes "needs") (list_of number_of) (field (codes "number") number_of
    (field (codes "outputs") (map_of text_of) (field (codes "steps") (list_of step_of) (field (codes "tolerate") flag_of no_more)))))

-- a job, from the parts that were read
abbrev pub job_from : Option (List ℕ) × (Values × (Bool × (Option Group × (List ℕ × (List Values × (Option ℕ × JobTail)))))) → JobPlan
job_from x =
    let tail = x.1.1.1.1.1.1.1 in
    record {
      condition = x.0;
      env = x.1.0;
      fail_fast = x.1.1.0;
      group = x.1.1.1.0;
      id = x.1.1.1.1.0;
      legs = x.1.1.1.1.1.0;
      max_parallel = x.1.1.1.1.1.1.0;
      name = tail.0;
      needs = tail.1.0;
      number = tail.1.1.0;
      outputs = tail.1.1.1.0;
      steps = tail.1.1.1.1.0;
      tolerate = tail.1.1.1.1.1.0;
    }

-- a job of a run
abbrev pub job_of : Data → Reading JobPlan
job_of =
    object_of (field (codes "condition") (optional_of text_of) (field (codes "env") values_of (field (codes "fail_fast") truth_of
    (field (codes "group") (optional_of group_of) (field (codes "id") text_of (field (codes "legs") (list_of values_of)
    (field (codes "max_parallel") (optional_of number_of) job_tail))))))) job_from

-- a run, from the parts that were read
abbrev pub run_from : Values × (Option (List ℕ) × (List ℕ × (Option Group × (List JobPlan × (Roots × ⊤))))) → RunPlan
run_from x = record { env = x.0; event = x.1.0; flow = x.1.1.0; group = x.1.1.1.0; jobs = x.1.1.1.1.0; roots = x.1.1.1.1.1.0 }

-- a run of the plan
abbrev pub run_of : Data → Reading RunPlan
run_of =
    object_of (field (codes "env") values_of (field (codes "event") (optional_of text_of) (field (codes "flow") text_of
    (field (codes "group") (optional_of group_of) (field (codes "jobs") (list_of job_of) (field (codes "roots") roots_of no_more)))))) run_from

-- a plan, from the parts that were read
abbrev pub plan_from : List RunPlan × (Version × ⊤) → Plan
plan_from x = record { runs = x.0 }

-- the plan that a document stands for, whatever its version
abbrev pub plan_of : Data → Reading Plan
plan_of = object_of (field (codes "runs") (list_of run_of) (field (codes "version") version_of no_more)) plan_from
