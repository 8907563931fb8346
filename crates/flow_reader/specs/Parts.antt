-- The smaller parts of a workflow: texts, ids, conditions, values, maps and lists.
use Rattle.std.specs.Prelude.{ℕ, ℤ, pos, negsuc, ◌==◌, List, [], ◌∷◌, codes, Option, Some, None, Ok, Bool, true, false, if◌then◌else◌, ⊤}
use Rattle.std.specs.List.{list_any}
use Rattle.std.specs.Str.{bytes_eq}
use Rattle.serde_json.specs.Data.{Data, null, boolean, number, string, array, object}
use Rattle.serde_json.specs.Find.{as_str}
use Rattle.expr_reader.specs.Bytes.{is_blank}
use Rattle.flow_model.specs.Json.{value_of, whole_of}
use Rattle.flow_model.specs.Name.{is_id}
use Rattle.flow_model.specs.Plain as plain
use Rattle.flow_model.specs.Rules.{is_variable_name, is_within}
use Rattle.flow_model.specs.declared.plan.Flag.{Flag}
use Rattle.flow_model.specs.declared.plan.Flag.TheVariants.{Truth, Text}
use Rattle.flow_model.specs.declared.plan.Group.{Group}
use Rattle.flow_model.specs.declared.plan.Roots.{Roots}
use Rattle.flow_model.specs.declared.plan.Shell.{Shell}
use Rattle.flow_model.specs.declared.plan.Shell.TheVariants.{Sh, Bash}
use Rattle.flow_reader.specs.Checked.{Checked, bad, both, made, under, defaulted, required, in_object, of_members, list_of, pairs_checked}
use Rattle.flow_reader.specs.declared.fault.FlowFault.TheVariants.{NotWhole, WrongShape, BadId, UnknownShell}

-- ---- texts

-- a text
abbrev pub text_of : Data → Checked (List ℕ)
text_of null = bad (WrongShape [])
text_of (boolean b) = bad (WrongShape [])
text_of (number n) = bad (WrongShape [])
text_of (string bytes) = Ok bytes
text_of (array ds) = bad (WrongShape [])
text_of (object ms) = bad (WrongShape [])

-- a text that is an id
abbrev pub id_text : List ℕ → Checked (List ℕ)
id_text name = if is_id name then Ok name else bad (BadId name)

-- an id
abbrev pub id_of : Data → Checked (List ℕ)
id_of null = bad (WrongShape [])
id_of (boolean b) = bad (WrongShape [])
id_of (number n) = bad (WrongShape [])
id_of (string bytes) = id_text bytes
id_of (array ds) = bad (WrongShape [])
id_of (object ms) = bad (WrongShape [])

-- a truth value
abbrev pub truth_of : Data → Checked Bool
truth_of null = bad (WrongShape [])
truth_of (boolean b) = Ok b
truth_of (number n) = bad (WrongShape [])
truth_of (string bytes) = bad (WrongShape [])
truth_of (array ds) = bad (WrongShape [])
truth_of (object ms) = bad (WrongShape [])

-- a truth value, or a text that gives one
abbrev pub flag_of : Data → Checked Flag
flag_of null = bad (WrongShape [])
flag_of (boolean b) = Ok (Truth b)
flag_of (number n) = bad (WrongShape [])
flag_of (string bytes) = Ok (Text bytes)
flag_of (array ds) = bad (WrongShape [])
flag_of (object ms) = bad (WrongShape [])

-- the text of a truth value
abbrev pub truth_text : Bool → List ℕ
truth_text true = codes "true"
truth_text false = codes "false"

-- a condition, unless it is blank
abbrev pub unless_blank : List ℕ → Option (List ℕ)
unless_blank text = if is_blank text then None else Some text

-- the text of a condition, if it is not blank; a truth value stands for its text
abbrev pub condition_of : Data → Checked (Option (List ℕ))
condition_of null = bad (WrongShape [])
condition_of (boolean b) = Ok (Some (truth_text b))
condition_of (number n) = bad (WrongShape [])
condition_of (string bytes) = Ok (unless_blank bytes)
condition_of (array ds) = bad (WrongShape [])
condition_of (object ms) = bad (WrongShape [])

-- the shell that has this name
abbrev pub shell_named : List ℕ → Checked Shell
shell_named name = if bytes_eq name (codes "sh") then Ok Sh else if bytes_eq name (codes "bash") then Ok Bash else bad UnknownShell

-- a shell
abbrev pub shell_of : Data → Checked Shell
shell_of null = bad (WrongShape [])
shell_of (boolean b) = bad (WrongShape [])
shell_of (number n) = bad (WrongShape [])
shell_of (string bytes) = shell_named bytes
shell_of (array ds) = bad (WrongShape [])
shell_of (object ms) = bad (WrongShape [])

-- a text alone, or else a list of texts
abbrev pub texts_at : Option (List ℕ) → Data → Checked (List (List ℕ))
texts_at (Some text) d = Ok (text ∷ [])
texts_at None d = list_of text_of d

-- a text, or a list of texts
unfoldable pub texts_of : Data → Checked (List (List ℕ))
texts_of d = texts_at (as_str d) d

-- the texts, each once
abbrev pub each_once : List (List ℕ) → List (List ℕ)
each_once [] = []
each_once (text ∷ texts) = if list_any (bytes_eq text) texts then each_once texts else text ∷ each_once texts

-- the ids that a job needs
unfoldable pub needs_of : Data → Checked (List (List ℕ))
needs_of d = made each_once (texts_of d)

-- ---- numbers and values

-- a whole number in range that is at least 1
abbrev pub limit_at : Option ℤ → Checked ℕ
limit_at None = bad NotWhole
limit_at (Some (pos n)) = if n == 0 then bad (WrongShape []) else Ok n
limit_at (Some (negsuc n)) = bad (WrongShape [])

-- how many at once, from 1
abbrev pub limit_of : Data → Checked ℕ
limit_of null = bad (WrongShape [])
limit_of (boolean b) = bad (WrongShape [])
limit_of (number n) = limit_at (whole_of n)
limit_of (string bytes) = bad (WrongShape [])
limit_of (array ds) = bad (WrongShape [])
limit_of (object ms) = bad (WrongShape [])

-- the value that a JSON number is held as
abbrev pub whole_at : Option ℤ → Checked plain.Plain
whole_at None = bad NotWhole
whole_at (Some z) = Ok (plain.whole z)

-- a text, a whole number, a truth value or null
abbrev pub scalar_of : Data → Checked plain.Plain
scalar_of null = Ok plain.null
scalar_of (boolean b) = Ok (plain.truth b)
scalar_of (number n) = whole_at (whole_of n)
scalar_of (string bytes) = Ok (plain.text bytes)
scalar_of (array ds) = bad (WrongShape [])
scalar_of (object ms) = bad (WrongShape [])

-- a value of whole numbers in range, nested at most 100 deep
abbrev pub plain_at : Option plain.Plain → Checked plain.Plain
plain_at None = bad NotWhole
plain_at (Some v) = if is_within 100 v then Ok v else bad (WrongShape [])

unfoldable pub plain_of : Data → Checked plain.Plain
plain_of d = plain_at (value_of d)

-- ---- maps

-- every member counts
abbrev pub counts_each : List ℕ → Bool
counts_each key = true

-- a variable of an environment
unfoldable pub variable_at : List ℕ → Data → Checked plain.Plain
variable_at name d = if is_variable_name name then under name (scalar_of d) else bad (BadId name)

-- an environment
unfoldable pub env_of : Data → Checked (List (List ℕ × plain.Plain))
env_of d = of_members (pairs_checked counts_each variable_at) d

-- an input of an action, whose name is free
abbrev pub input_at : List ℕ → Data → Checked plain.Plain
input_at name d = under name (scalar_of d)

-- the inputs of an action
unfoldable pub inputs_of : Data → Checked (List (List ℕ × plain.Plain))
inputs_of d = of_members (pairs_checked counts_each input_at) d

-- an output of a job
unfoldable pub output_at : List ℕ → Data → Checked (List ℕ)
output_at name d = if is_id name then under name (text_of d) else bad (BadId name)

-- the outputs of a job
unfoldable pub outputs_of : Data → Checked (List (List ℕ × List ℕ))
outputs_of d = of_members (pairs_checked counts_each output_at) d

-- a property, whose name is free
abbrev pub property_at : List ℕ → Data → Checked plain.Plain
property_at name d = under name (plain_of d)

-- a map of values
unfoldable pub properties_of : Data → Checked (List (List ℕ × plain.Plain))
properties_of d = of_members (pairs_checked counts_each property_at) d

-- ---- groups

abbrev pub group_from : List ℕ × (Flag × ⊤) → Group
group_from (name, (cancel, _)) = record { name = name; cancel = cancel }

-- the text of a group alone, or else an object with `group` and, if it is to be, `cancel-in-progress`
abbrev pub group_at : Option (List ℕ) → Data → Checked Group
group_at (Some text) d = Ok (record { name = text; cancel = Truth false })
group_at None d =
    made group_from (in_object (λ o. both (required text_of (codes "group") o) (both (defaulted (Truth false) flag_of (codes "cancel-in-progress") o) (Ok tt))) d)

-- a concurrency group
unfoldable pub group_of : Data → Checked Group
group_of d = group_at (as_str d) d

-- ---- the contexts that a run is handed

abbrev pub roots_from : List (List ℕ × plain.Plain) × (List (List ℕ × plain.Plain) × (List (List ℕ × plain.Plain) × (List (List ℕ × plain.Plain) × ⊤))) → Roots
roots_from (github, (inputs, (secrets, (vars, _)))) = record { github = github; inputs = inputs; secrets = secrets; vars = vars }

-- the contexts, each a map of values, and empty where it is missing
unfoldable pub roots_of : Data → Checked Roots
roots_of d =
    made roots_from (in_object (λ o. both (defaulted [] properties_of (codes "github") o) (both (defaulted [] properties_of (codes "inputs") o)
    (both (defaulted [] properties_of (codes "secrets") o) (both (defaulted [] properties_of (codes "vars") o) (Ok tt))))) d)
