-- Which faults are to be seen at a place of a workflow's file.
use Rattle.std.specs.Prelude.{◌≡◌, ℕ, ◌⊎◌, true, false, if◌then◌else◌, List, Some, None, codes, is_some}
use Rattle.std.specs.Str.{bytes_eq}
use Rattle.serde_json.specs.Data.{Data}
use Rattle.serde_json.specs.Find.{get, as_object, as_str}
use Rattle.expr_reader.specs.Faults.{fault_name, fault_place}
use Rattle.expr_reader.specs.Template.{has_marker}
use Rattle.expr_reader.specs.declared.fault.ExprFault.{ExprFault}
use Rattle.flow_model.specs.Json.{value_of}
use Rattle.flow_model.specs.Name.{is_id}
use Rattle.flow_model.specs.Rules.{is_variable_name}
use Rattle.flow_lint.specs.Kinds.{WantsValue, WantsWhole, Wants}
use Rattle.flow_lint.specs.Places.{FilePlace, IsUnread}
use Rattle.flow_lint.specs.declared.kind.NodeKind.TheVariants as kinds
use Rattle.flow_reader.specs.Parts.{shell_named}
use Rattle.flow_reader.specs.Checked.{bad}
use Rattle.flow_reader.specs.declared.fault.FlowFault.{FlowFault}
use Rattle.flow_reader.specs.declared.fault.FlowFault.TheVariants as flow

-- What may stand in the place of a key: `true` of `on`, as YAML has that, and `uses` of `run`.
abbrev pub other_key : List ℕ → List ℕ
other_key key =
    if bytes_eq key (codes "on") then codes "true"
    else (if bytes_eq key (codes "run") then codes "uses" else key)

-- An object has no such key, nor what may stand in its place.
pub record Lacks (key : List ℕ) (d : Data) : Type 0 where
  pub is_object : is_some (as_object d) ≡ true
  pub none : get key d ≡ None
  pub no_other : get (other_key key) d ≡ None

-- A name is none at a place where one has to be: the id of a job or output, the name of a variable, the id of a step.
abbrev pub IsMisnamed : List ℕ → FilePlace → Type 0
IsMisnamed name p =
    (((p.kind ≡ kinds.Job) ⊎ (p.kind ≡ kinds.Output)) × ((p.last ≡ name) × (is_id name ≡ false)))
    ⊎ (((p.kind ≡ kinds.Variable) × ((p.last ≡ name) × (is_variable_name name ≡ false)))
    ⊎ ((p.kind ≡ kinds.Id) × ((p.last ≡ codes "id") × ((as_str p.value ≡ Some name) × (is_id name ≡ false)))))

-- A text has an expression in it.
abbrev pub HasExpression : Data → Type 0
HasExpression d = (text : List ℕ) × ((as_str d ≡ Some text) × (has_marker text ≡ true))

-- A place shows a fault: a number in the value there is not held as whole; it is an object that lacks the key that has to be in it;
-- a name there is none; the table leaves its key out, or it has an expression where a value is written; it is a text where a
-- shell is named, and names none.
abbrev pub ShowsFlow : FlowFault → FilePlace → Type 0
ShowsFlow flow.NotJson p = ⊥
ShowsFlow flow.NotWhole p = WantsWhole p.kind × (value_of p.value ≡ None)
ShowsFlow (flow.Missing missed) p = Wants p.kind missed × Lacks missed p.value
ShowsFlow (flow.WrongShape path) p = ⊥
ShowsFlow (flow.BadId name) p = IsMisnamed name p
ShowsFlow (flow.LeftOut left) p = (p.last ≡ left) × ((p.kind ≡ kinds.LeftOut) ⊎ (WantsValue p.kind × HasExpression p.value))
ShowsFlow flow.UnknownShell p =
    (p.kind ≡ kinds.Shell) × ((p.last ≡ codes "shell")
    × ((name : List ℕ) × ((as_str p.value ≡ Some name) × (shell_named name ≡ bad flow.UnknownShell))))
ShowsFlow flow.Memory p = ⊥

-- A fault of that name stands at that byte of a text.
abbrev pub ShowsText : ExprFault → FilePlace → Type 0
ShowsText fault p =
    (other : ExprFault) × (IsUnread other p × ((fault_name other ≡ fault_name fault) × (fault_place other ≡ fault_place fault)))
