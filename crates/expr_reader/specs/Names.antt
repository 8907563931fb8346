-- The names of contexts and functions.
use Rattle.std.specs.Prelude.{ℕ, List, codes}
use Rattle.expr_reader.specs.declared.tree.Context.{Context}
use Rattle.expr_reader.specs.declared.tree.Context.TheVariants.{Github, Env, Vars, Job, Jobs, Steps, Runner, Secrets, Strategy, Matrix, Needs, Inputs}
use Rattle.expr_reader.specs.declared.tree.Function.{Function}
use Rattle.expr_reader.specs.declared.tree.Function.TheVariants.{Contains, StartsWith, EndsWith, Format, Join, ToJson, FromJson, Success, Failure, Cancelled, Always}

-- A context's name, in small letters.
abbrev pub context_name : Context → List ℕ
context_name Github = codes "github"
context_name Env = codes "env"
context_name Vars = codes "vars"
context_name Job = codes "job"
context_name Jobs = codes "jobs"
context_name Steps = codes "steps"
context_name Runner = codes "runner"
context_name Secrets = codes "secrets"
context_name Strategy = codes "strategy"
context_name Matrix = codes "matrix"
context_name Needs = codes "needs"
context_name Inputs = codes "inputs"

-- A function's name, in small letters.
abbrev pub function_name : Function → List ℕ
function_name Contains = codes "contains"
function_name StartsWith = codes "startswith"
function_name EndsWith = codes "endswith"
function_name Format = codes "format"
function_name Join = codes "join"
function_name ToJson = codes "tojson"
function_name FromJson = codes "fromjson"
function_name Success = codes "success"
function_name Failure = codes "failure"
function_name Cancelled = codes "cancelled"
function_name Always = codes "always"
