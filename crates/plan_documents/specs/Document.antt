-- The document of a plan in each version: its objects, with their keys in byte order.
use Rattle.std.specs.Prelude.{◌≡◌, codes}
use Rattle.serde_json.specs.Data.{Data, boolean, string, object, no_members, member}
use Rattle.flow_model.specs.Json.{json_of}
use Rattle.flow_model.specs.declared.plan.Flag.{Flag}
use Rattle.flow_model.specs.declared.plan.Flag.TheVariants.{Truth, Text}
use Rattle.flow_model.specs.declared.plan.Group.{Group}
use Rattle.flow_model.specs.declared.plan.JobPlan.{JobPlan}
use Rattle.flow_model.specs.declared.plan.Plan.{Plan}
use Rattle.flow_model.specs.declared.plan.Roots.{Roots}
use Rattle.flow_model.specs.declared.plan.RunPlan.{RunPlan}
use Rattle.flow_model.specs.declared.plan.Shell.{Shell}
use Rattle.flow_model.specs.declared.plan.Shell.TheVariants.{Default, Sh, Bash}
use Rattle.flow_model.specs.declared.plan.StepPlan.{StepPlan}
use Rattle.flow_model.specs.declared.plan.Work.{Work}
use Rattle.flow_model.specs.declared.plan.Work.TheVariants.{Run, Uses}
use Rattle.plan_documents.specs.Parts.{number_data, optional_data, list_data, map_data}
use Rattle.plan_documents.specs.Version.{version_data}
use Rattle.plan_documents.specs.declared.version.Version.{Version}
use Rattle.plan_documents.specs.declared.version.Version.TheVariants.{Two}

-- a truth value, or a text to be evaluated
abbrev pub flag_data : Flag → Data
flag_data (Truth b) = boolean b
flag_data (Text t) = string t

-- a concurrency group
abbrev pub group_data : Group → Data
group_data g = object (member (codes "cancel") (flag_data g.cancel) (member (codes "name") (string g.name) no_members))

-- the contexts that a run is handed
abbrev pub roots_data : Roots → Data
roots_data r =
    object (member (codes "github") (map_data json_of r.github) (member (codes "inputs") (map_data json_of r.inputs)
    (member (codes "secrets") (map_data json_of r.secrets) (member (codes "vars") (map_data json_of r.vars) no_members))))

-- the word of a shell
abbrev pub shell_data : Shell → Data
shell_data Default = string (codes "default")
shell_data Sh = string (codes "sh")
shell_data Bash = string (codes "bash")

-- what a step does, told by its kind
abbrev pub work_data : Work → Data
work_data (Run dir run shell) =
    object (member (codes "dir") (optional_data string dir) (member (codes "kind") (string (codes "run"))
    (member (codes "run") (string run) (member (codes "shell") (shell_data shell) no_members))))
work_data (Uses uses given) =
    object (member (codes "kind") (string (codes "uses")) (member (codes "uses") (string uses) (member (codes "with") (map_data json_of given) no_members)))

-- a step of a job
abbrev pub step_data : StepPlan → Data
step_data s =
    object (member (codes "condition") (optional_data string s.condition) (member (codes "env") (map_data json_of s.env)
    (member (codes "id") (optional_data string s.id) (member (codes "name") (optional_data string s.name)
    (member (codes "tolerate") (flag_data s.tolerate) (member (codes "work") (work_data s.work) no_members))))))

-- a job of a run
abbrev pub job_data : JobPlan → Data
job_data j =
    object (member (codes "condition") (optional_data string j.condition) (member (codes "env") (map_data json_of j.env)
    (member (codes "fail_fast") (boolean j.fail_fast) (member (codes "group") (optional_data group_data j.group)
    (member (codes "id") (string j.id) (member (codes "legs") (list_data (map_data json_of) j.legs)
    (member (codes "max_parallel") (optional_data number_data j.max_parallel) (member (codes "name") (string j.name)
    (member (codes "needs") (list_data number_data j.needs) (member (codes "number") (number_data j.number)
    (member (codes "outputs") (map_data string j.outputs) (member (codes "steps") (list_data step_data j.steps)
    (member (codes "tolerate") (flag_data j.tolerate) no_members)))))))))))))

-- a run of the plan
abbrev pub run_data : RunPlan → Data
run_data r =
    object (member (codes "env") (map_data json_of r.env) (member (codes "event") (optional_data string r.event)
    (member (codes "flow") (string r.flow) (member (codes "group") (optional_data group_data r.group)
    (member (codes "jobs") (list_data job_data r.jobs) (member (codes "roots") (roots_data r.roots) no_members))))))

-- the document of a plan in a version
abbrev pub document_in : Version → Plan → Data
document_in version p =
    object (member (codes "runs") (list_data run_data p.runs) (member (codes "version") (version_data version) no_members))

-- the document that is printed of a plan
abbrev pub document : Plan → Data
document p = document_in Two p

-- this JSON is a document of the plan, in one of the versions
abbrev pub IsPlanDocument : Plan → Data → Type 0
IsPlanDocument p d = (version : Version) × (d ≡ document_in version p)
