-- The plan that a text loads as, and the fault where there is none.
use Rattle.std.specs.Prelude.{◌≡◌, ℕ, List, codes, Bool, not, false, ◌&&◌, is_some, if◌then◌else◌, Option, Some, None, option_map, option_and_then, unwrap_or, Result, Ok, Err}
use Rattle.serde_json.specs.Data.{Data}
use Rattle.serde_json.specs.Find.{get, as_object, as_number, as_u64}
use Rattle.flow_model.specs.JsonText.{json_read}
use Rattle.flow_model.specs.Rules.{plan_rules}
use Rattle.flow_model.specs.declared.plan.Plan.{Plan}
use Rattle.plan_documents.specs.Parts.{Reading}
use Rattle.plan_documents.specs.Reading.{plan_of}
use Rattle.plan_documents.specs.Version.{is_version}
use Rattle.plan_text.specs.declared.fault.LoadFault.{LoadFault}
use Rattle.plan_text.specs.declared.fault.LoadFault.TheVariants.{NotJson, Version, NotPlan, NotEntry, Memory}

-- the bytes read as JSON that is a document of this
abbrev pub IsTextOf : {A : Type 0} → (A → Data → Type 0) → List ℕ → A → Type 0
IsTextOf IsDocument bytes x = (d : Data) × (json_read bytes ≡ Some d) × IsDocument x d

-- whether the object's `version` is 1 or 2
abbrev pub has_known_version : Data → Bool
has_known_version d = unwrap_or (option_map is_version (option_and_then as_u64 (option_and_then as_number (get (codes "version") d)))) false

-- an object whose `version` is missing or neither 1 nor 2
abbrev pub has_other_version : Data → Bool
has_other_version d = is_some (as_object d) && not (has_known_version d)

-- a plan that was read is accepted where none of its rules is broken
abbrev pub accepted : Plan → Option (List ℕ) → Result Plan LoadFault
accepted p None = Ok p
accepted p (Some path) = Err (NotPlan path)

-- a document that is no plan's is refused at its path
abbrev pub checked : Reading Plan → Result Plan LoadFault
checked (Ok p) = accepted p (plan_rules p)
checked (Err path) = Err (NotPlan path)

-- the version is looked at before everything else
abbrev pub loaded : Option Data → Result Plan LoadFault
loaded None = Err NotJson
loaded (Some d) = if has_other_version d then Err Version else checked (plan_of d)

-- the plan that bytes load as
abbrev pub load : List ℕ → Result Plan LoadFault
load bytes = loaded (json_read bytes)

-- The answer is this one; memory may run out besides.
abbrev pub Gives : {A : Type 0} → Result A LoadFault → Result A LoadFault → Type 0
Gives (Ok found) answer = answer ≡ Ok found
Gives (Err NotJson) answer = answer ≡ Err NotJson
Gives (Err Version) answer = answer ≡ Err Version
Gives (Err (NotPlan path)) answer = answer ≡ Err (NotPlan path)
Gives (Err (NotEntry line)) answer = answer ≡ Err (NotEntry line)
Gives (Err Memory) answer = Unit {0}
