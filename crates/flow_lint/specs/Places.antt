-- Places in a workflow's file, and what there is to be seen at one whatever comes of the file.
use Rattle.std.specs.Prelude.{◌≡◌, ◌<◌, ℕ, ◌⊎◌, List, [], ◌∷◌, ◌++◌, codes, decimal, Option, Some, None, option_and_then}
use Rattle.serde_json.specs.Data.{Data}
use Rattle.serde_json.specs.Find.{get, at, as_str}
use Rattle.expr_reader.specs.TemplateStands.{TemplateFaultStands, ConditionFaultStands}
use Rattle.expr_reader.specs.declared.fault.ExprFault.{ExprFault}
use Rattle.flow_lint.specs.Keys.{IsOpened, kind_at}
use Rattle.flow_lint.specs.Kinds.{IsList, IsNeed, IsTemplate, level_in}
use Rattle.flow_lint.specs.declared.kind.NodeKind.{NodeKind}
use Rattle.flow_lint.specs.declared.kind.NodeKind.TheVariants as kinds
use Rattle.flow_lint.specs.declared.kind.Level.{Level}
use Rattle.flow_lint.specs.declared.kind.Level.TheVariants as levels

-- ---- places

-- A step from a value to one that stands in it: by the key of an object, or by a number of a list, from 0.
pub data Way : Type 0 where
  key : List ℕ → Way
  item : ℕ → Way

abbrev pub way_text : Way → List ℕ
way_text (key name) = name
way_text (item place) = decimal place

abbrev pub follow : Way → Data → Option Data
follow (key name) d = get name d
follow (item place) d = at place d

-- What stands at the end of a path, whose last step is named first.
abbrev pub found : List Way → Data → Option Data
found [] root = Some root
found (way ∷ ways) root = option_and_then (follow way) (found ways root)

-- A key or number behind a path, parted by a dot; the path of the whole is empty.
abbrev pub below : List ℕ → List ℕ → List ℕ
below [] last = last
below (c ∷ path) last = (c ∷ path) ++ (codes "." ++ last)

-- The text of such a path.
abbrev pub path_text : List Way → List ℕ
path_text [] = []
path_text (way ∷ ways) = below (path_text ways) (way_text way)

-- Its last key or number.
abbrev pub last_text : List Way → List ℕ
last_text [] = []
last_text (way ∷ ways) = way_text way

-- What the table of keys has at the end of a path, and what it has around that.
abbrev pub kind_of : List Way → NodeKind
kind_of [] = kinds.Workflow
kind_of (way ∷ ways) = kind_at (kind_of ways) (way_text way)

abbrev pub kind_around : List Way → NodeKind
kind_around [] = kinds.Workflow
kind_around (way ∷ ways) = kind_of ways

-- Whether what stands there belongs to the workflow, a job or a step.
abbrev pub level_of : List Way → Level
level_of [] = levels.Workflow
level_of (way ∷ ways) = level_in (kind_of (way ∷ ways)) (level_of ways)

-- What is to be seen at a place: what the table of keys has there and around it, to what it belongs, the last key or number, and the
-- value.
pub record FilePlace : Type 0 where
  pub around : NodeKind
  pub kind : NodeKind
  pub level : Level
  pub last : List ℕ
  pub value : Data

-- What is to be seen one step further.
abbrev pub inner : FilePlace → List ℕ → Data → FilePlace
inner p last value = record {
  around = p.kind;
  kind = kind_at p.kind last;
  level = level_in (kind_at p.kind last) p.level;
  last = last;
  value = value;
}

-- At this path of a file is this to be seen.
pub record StandsAt (root : Data) (path : List ℕ) (p : FilePlace) : Type 0 where
  pub ways : List Way
  pub is_path : path ≡ path_text ways
  pub is_around : p.around ≡ kind_around ways
  pub is_kind : p.kind ≡ kind_of ways
  pub is_level : p.level ≡ level_of ways
  pub is_last : p.last ≡ last_text ways
  pub stands : found ways root ≡ Some p.value

-- ---- places that are looked at

-- The whole of a file.
abbrev pub whole : Data → FilePlace
whole root = record {
  around = kinds.Workflow;
  kind = kinds.Workflow;
  level = levels.Workflow;
  last = [];
  value = root;
}

-- A step into what is of this kind is taken: by each key where the table has something to say, by each number of a list of steps or
-- needs.
abbrev pub IsTaken : NodeKind → Way → Type 0
IsTaken kind (key name) = IsOpened kind
IsTaken kind (item place) = IsList kind

-- So is each step of a path.
abbrev pub AreTaken : List Way → Type 0
AreTaken [] = Unit {0}
AreTaken (way ∷ ways) = IsTaken (kind_of ways) way × AreTaken ways

-- What is to be seen at a path of a file is looked at.
pub record IsLookedAt (root : Data) (path : List ℕ) (p : FilePlace) : Type 0 where
  pub stands : StandsAt root path p
  pub are_taken : AreTaken stands.ways

-- ---- texts and needs

-- A fault stands in a text, which is read as a template or as a condition, as the table says.
pub record IsUnread (fault : ExprFault) (p : FilePlace) : Type 0 where
  pub text : List ℕ
  pub is : as_str p.value ≡ Some text
  pub stands : (IsTemplate p.kind × TemplateFaultStands text fault) ⊎ ((p.kind ≡ kinds.Condition) × ConditionFaultStands text fault)

-- A text where a need stands is the id of no job.
abbrev pub ShowsNeed : Option Data → FilePlace → Type 0
ShowsNeed jobs p = IsNeed p.kind × ((id : List ℕ) × ((as_str p.value ≡ Some id) × (option_and_then (get id) jobs ≡ None)))

-- ---- ids of steps

-- The id of the step at a place of a list.
abbrev pub id_at : ℕ → Data → Option (List ℕ)
id_at place steps = option_and_then as_str (option_and_then (get (codes "id")) (at place steps))

-- The step at this place of a list has this id, and an earlier one has it.
abbrev pub Repeats : Data → List ℕ → ℕ → Type 0
Repeats steps name later =
    (id_at later steps ≡ Some name) × ((earlier : ℕ) × ((earlier < later) × (id_at earlier steps ≡ Some name)))

-- Two steps of a job have this id.
abbrev pub HasTwice : List ℕ → FilePlace → Type 0
HasTwice name p = (p.kind ≡ kinds.Steps) × ((later : ℕ) × Repeats p.value name later)

-- The path leads to the id of a step, which an earlier step of the same job has.
pub record IsRepeated (root : Data) (name path : List ℕ) : Type 0 where
  pub ways : List Way
  pub steps : Data
  pub are_steps : kind_of ways ≡ kinds.Steps
  pub stand : found ways root ≡ Some steps
  pub later : ℕ
  pub repeats : Repeats steps name later
  pub is_path : path ≡ path_text (key (codes "id") ∷ item later ∷ ways)
