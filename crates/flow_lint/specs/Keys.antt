-- The keys of a workflow's file, level by level, and what stands at each: the table beside which GitHub's page "Workflow syntax" can
-- be read.
use Rattle.std.specs.Prelude.{◌≡◌, ℕ, ◌⊎◌, if◌then◌else◌, List, [], ◌∷◌, codes}
use Rattle.std.specs.Str.{bytes_eq}
use Rattle.flow_lint.specs.declared.kind.NodeKind.{NodeKind}
use Rattle.flow_lint.specs.declared.kind.NodeKind.TheVariants.{Workflow, Jobs, Job, Steps, Step, Plain, Id, Needs, Need, Condition, Flag, Env, Variable, With, Input, Outputs, Output, Group, GroupName, Defaults, Scripts, Shell, Directory, SharedDirectory, Run, Strategy, FailFast, MaxParallel, Matrix, Values, Entries, Triggers, Event, Idle, LeftOut, Unknown}

-- Keys, each with what stands there.
abbrev pub Keys : Type 0
Keys = List (List ℕ × NodeKind)

-- Of the workflow. `true` is what YAML 1.1 makes of `on`.
abbrev pub workflow_keys : Keys
workflow_keys =
    (codes "name", Plain) ∷ (codes "on", Triggers) ∷ (codes "true", Triggers) ∷ (codes "env", Env) ∷ (codes "defaults", Defaults)
    ∷ (codes "concurrency", Group) ∷ (codes "jobs", Jobs) ∷ (codes "permissions", Idle) ∷ (codes "run-name", Idle) ∷ []

-- Of a job.
abbrev pub job_keys : Keys
job_keys =
    (codes "name", Plain) ∷ (codes "needs", Needs) ∷ (codes "if", Condition) ∷ (codes "strategy", Strategy)
    ∷ (codes "concurrency", Group) ∷ (codes "continue-on-error", Flag) ∷ (codes "env", Env) ∷ (codes "defaults", Defaults)
    ∷ (codes "outputs", Outputs) ∷ (codes "steps", Steps) ∷ (codes "container", LeftOut) ∷ (codes "services", LeftOut)
    ∷ (codes "uses", LeftOut) ∷ (codes "runs-on", Idle) ∷ (codes "permissions", Idle) ∷ (codes "environment", Idle)
    ∷ (codes "timeout-minutes", Idle) ∷ (codes "with", Idle) ∷ (codes "secrets", Idle) ∷ []

-- Of a step.
abbrev pub step_keys : Keys
step_keys =
    (codes "id", Id) ∷ (codes "name", Plain) ∷ (codes "if", Condition) ∷ (codes "env", Env) ∷ (codes "continue-on-error", Flag)
    ∷ (codes "working-directory", Directory) ∷ (codes "shell", Shell) ∷ (codes "run", Run) ∷ (codes "uses", Plain)
    ∷ (codes "with", With) ∷ (codes "timeout-minutes", Idle) ∷ []

-- Of `strategy`, of `defaults` and its `run`, of `concurrency`.
abbrev pub strategy_keys : Keys
strategy_keys = (codes "matrix", Matrix) ∷ (codes "fail-fast", FailFast) ∷ (codes "max-parallel", MaxParallel) ∷ []

abbrev pub defaults_keys : Keys
defaults_keys = (codes "run", Scripts) ∷ []

abbrev pub script_keys : Keys
script_keys = (codes "shell", Shell) ∷ (codes "working-directory", SharedDirectory) ∷ []

abbrev pub group_keys : Keys
group_keys = (codes "group", GroupName) ∷ (codes "cancel-in-progress", Flag) ∷ []

-- Of a matrix, beside its variables.
abbrev pub matrix_keys : Keys
matrix_keys = (codes "include", Entries) ∷ (codes "exclude", Entries) ∷ []

-- The keys that have a meaning within what is of this kind.
abbrev pub known_keys : NodeKind → Keys
known_keys Workflow = workflow_keys
known_keys Jobs = []
known_keys Job = job_keys
known_keys Steps = []
known_keys Step = step_keys
known_keys Plain = []
known_keys Id = []
known_keys Needs = []
known_keys Need = []
known_keys Condition = []
known_keys Flag = []
known_keys Env = []
known_keys Variable = []
known_keys With = []
known_keys Input = []
known_keys Outputs = []
known_keys Output = []
known_keys Group = group_keys
known_keys GroupName = []
known_keys Defaults = defaults_keys
known_keys Scripts = script_keys
known_keys Shell = []
known_keys Directory = []
known_keys SharedDirectory = []
known_keys Run = []
known_keys Strategy = strategy_keys
known_keys FailFast = []
known_keys MaxParallel = []
known_keys Matrix = matrix_keys
known_keys Values = []
known_keys Entries = []
known_keys Triggers = []
known_keys Event = []
known_keys Idle = []
known_keys LeftOut = []
known_keys Unknown = []

-- What stands there at any other key, or at a number of a list: a job behind its id, a variable behind its name.
abbrev pub other_kind : NodeKind → NodeKind
other_kind Workflow = Unknown
other_kind Jobs = Job
other_kind Job = Unknown
other_kind Steps = Step
other_kind Step = Unknown
other_kind Plain = Unknown
other_kind Id = Unknown
other_kind Needs = Need
other_kind Need = Unknown
other_kind Condition = Unknown
other_kind Flag = Unknown
other_kind Env = Variable
other_kind Variable = Unknown
other_kind With = Input
other_kind Input = Unknown
other_kind Outputs = Output
other_kind Output = Unknown
other_kind Group = Unknown
other_kind GroupName = Unknown
other_kind Defaults = Unknown
other_kind Scripts = Unknown
other_kind Shell = Unknown
other_kind Directory = Unknown
other_kind SharedDirectory = Unknown
other_kind Run = Unknown
other_kind Strategy = Unknown
other_kind FailFast = Unknown
other_kind MaxParallel = Unknown
other_kind Matrix = Values
other_kind Values = Unknown
other_kind Entries = Unknown
other_kind Triggers = Event
other_kind Event = Unknown
other_kind Idle = Unknown
other_kind LeftOut = Unknown
other_kind Unknown = Unknown

-- What stands at a key by a table, or else this.
abbrev pub kind_in : Keys → NodeKind → List ℕ → NodeKind
kind_in [] other name = other
kind_in ((known, kind) ∷ keys) other name = if bytes_eq known name then kind else kind_in keys other name

-- What stands at a key of what is of this kind.
abbrev pub kind_at : NodeKind → List ℕ → NodeKind
kind_at kind name = kind_in (known_keys kind) (other_kind kind) name

-- The table has something to say of what stands behind the keys of what is of this kind, so that each of them is looked at.
abbrev pub IsOpened : NodeKind → Type 0
IsOpened kind = (known_keys kind ≡ [] → ⊥) ⊎ (other_kind kind ≡ Unknown → ⊥)
