-- What hints say, and at which places of a file.
use Rattle.std.specs.Prelude.{◌≡◌, ◌++◌, ℕ, ◌⊎◌, ◌∷◌, List, [], codes, true, false, Option, Some, is_some}
use Rattle.std.specs.List.{All, Contains}
use Rattle.serde_json.specs.Data.{Data}
use Rattle.serde_json.specs.Find.{get, as_str}
use Rattle.expr_reader.specs.Accepts.{template_read, condition_read}
use Rattle.expr_reader.specs.Bytes.{is_blank}
use Rattle.expr_reader.specs.Names.{context_name}
use Rattle.expr_reader.specs.Template.{Piece}
use Rattle.expr_reader.specs.declared.tree.Context.{Context}
use Rattle.expr_value.specs.Named.{pieces_name_context}
use Rattle.flow_model.specs.JsonText.{json_read}
use Rattle.flow_lint.specs.Contexts.{Sees}
use Rattle.flow_lint.specs.Kinds.{IsTemplate}
use Rattle.flow_lint.specs.Nodes.{place_of}
use Rattle.flow_lint.specs.Places.{IsLookedAt, FilePlace, StandsAt, ShowsNeed, below}
use Rattle.flow_lint.specs.Unknown.{Suggests, idle_key, job_ids, key_names, unknown_id, unknown_key}
use Rattle.flow_lint.specs.declared.kind.NodeKind.TheVariants as kinds
use Rattle.flow_lint.specs.declared.node.Node.{Node}
use Rattle.flow_lint.specs.declared.note.Note.{Note}

-- ---- of the place alone

-- The table knows no such key there; it is read and does nothing.
abbrev pub SaysUnknown : FilePlace → List ℕ → Type 0
SaysUnknown p said = (p.kind ≡ kinds.Unknown) × Suggests (key_names p.around) p.last (unknown_key p.last) said

abbrev pub SaysIdle : FilePlace → List ℕ → Type 0
SaysIdle p said = (p.kind ≡ kinds.Idle) × (said ≡ idle_key p.last)

-- An event is there, and what stands at it.
abbrev pub SaysEvent : FilePlace → List ℕ → Type 0
SaysEvent p said = (p.kind ≡ kinds.Event) × (said ≡ codes "what stands here does nothing: an event counts by its name alone")

-- No job has the id that is needed there.
abbrev pub SaysNeed : Option Data → FilePlace → List ℕ → Type 0
SaysNeed jobs p said =
    ShowsNeed jobs p × ((id : List ℕ) × ((as_str p.value ≡ Some id) × Suggests (job_ids jobs) id (unknown_id id) said))

-- The text there is read as these pieces.
abbrev pub IsReadAs : List Piece → FilePlace → Type 0
IsReadAs pieces p =
    (text : List ℕ) × ((as_str p.value ≡ Some text)
    × ((IsTemplate p.kind × (template_read text ≡ Some pieces)) ⊎ ((p.kind ≡ kinds.Condition) × (condition_read text ≡ Some pieces))))

-- A text is evaluated there: as a template, or as a condition that is not blank.
abbrev pub IsEvaluated : FilePlace → Type 0
IsEvaluated p =
    (text : List ℕ) × ((as_str p.value ≡ Some text)
    × (IsTemplate p.kind ⊎ ((p.kind ≡ kinds.Condition) × (is_blank text ≡ false))))

-- A text names a context that it does not see.
pub record NamesUnseen (context : Context) (p : FilePlace) : Type 0 where
  pub pieces : List Piece
  pub read : IsReadAs pieces p
  pub names : pieces_name_context context pieces ≡ true
  pub unseen : Sees context p → ⊥

abbrev pub SaysEmpty : FilePlace → List ℕ → Type 0
SaysEmpty p said =
    (context : Context) × (NamesUnseen context p
    × (said ≡ codes "the context `" ++ (context_name context ++ codes "` is empty here")))

abbrev pub Says : Option Data → FilePlace → List ℕ → Type 0
Says jobs p said = SaysUnknown p said ⊎ (SaysIdle p said ⊎ (SaysEvent p said ⊎ (SaysNeed jobs p said ⊎ SaysEmpty p said)))

-- ---- of a key of a step beside another

-- The keys of a step that do nothing, each beside what makes it so.
abbrev pub beside_others : List (List ℕ × List ℕ)
beside_others =
    (codes "shell", codes "uses") ∷ (codes "with", codes "run") ∷ (codes "working-directory", codes "uses") ∷ []

pub record IsBeside (path : List ℕ) (p : FilePlace) (note : Note) : Type 0 where
  pub both : List ℕ × List ℕ
  pub one : Contains beside_others both
  pub is_step : p.kind ≡ kinds.Step
  pub is_there : is_some (get both.0 p.value) ≡ true
  pub other_is : is_some (get both.1 p.value) ≡ true
  pub is_path : note.path ≡ below path both.0
  pub is : note.sentence ≡ codes "`" ++ (both.0 ++ (codes "` does nothing beside `" ++ (both.1 ++ codes "`")))

-- ---- of a file

-- A hint on what is to be seen at a path.
abbrev pub Hints : Option Data → List ℕ → FilePlace → Note → Type 0
Hints jobs path p note = ((note.path ≡ path) × Says jobs p note.sentence) ⊎ IsBeside path p note

abbrev pub HasHint : Option Data → Node → Note → Type 0
HasHint jobs node note = Hints jobs node.path (place_of node) note

-- A sentence does not begin as that of a rejection does.
abbrev pub IsHint : List ℕ → Type 0
IsHint said = (rest : List ℕ) → said ≡ codes "refused, " ++ rest → ⊥

-- A hint of a file.
pub record IsHintOf (root : Data) (note : Note) : Type 0 where
  pub path : List ℕ
  pub place : FilePlace
  pub stands : StandsAt root path place
  pub hints : Hints (get (codes "jobs") root) path place note
  pub passes : IsHint note.sentence

abbrev pub AreHintsOf : Data → List Note → Type 0
AreHintsOf root notes = All (IsHintOf root) notes

-- ---- what is left out

-- One of some notes says this at a path.
abbrev pub HasNote : List Note → List ℕ → (List ℕ → Type 0) → Type 0
HasNote notes path Said = (note : Note) × (Contains notes note × ((note.path ≡ path) × Said note.sentence))

-- What is among some notes is among others.
abbrev pub KeepsNotes : List Note → List Note → Type 0
KeepsNotes notes others = (note : Note) → Contains notes note → Contains others note

-- What a person should know of what is to be seen at a path is among some notes: that a key is not known or does nothing, that a need
-- is of no job.
pub record IsHinted (jobs : Option Data) (notes : List Note) (path : List ℕ) (p : FilePlace) : Type 0 where
  pub unknown : p.kind ≡ kinds.Unknown → HasNote notes path (SaysUnknown p)
  pub idle : p.kind ≡ kinds.Idle → HasNote notes path (SaysIdle p)
  pub need : ShowsNeed jobs p → HasNote notes path (SaysNeed jobs p)

abbrev pub HasHints : Data → List ℕ → List Note → Node → Type 0
HasHints root told notes node = (node.path ≡ told → ⊥) → IsHinted (get (codes "jobs") root) notes node.path (place_of node)

-- So it is of each place that is looked at, but for the one of which something is told already.
abbrev pub AreAllHints : Data → List ℕ → List Note → Type 0
AreAllHints root told notes =
    (path : List ℕ) (p : FilePlace) → IsLookedAt root path p → (path ≡ told → ⊥) → IsHinted (get (codes "jobs") root) notes path p

-- The hints of a file's bytes, which has none where it is no JSON, but for those on the place of which something is told already.
pub record AreHints (bytes told : List ℕ) (notes : List Note) : Type 0 where
  pub each : All (λ note. (root : Data) × ((json_read bytes ≡ Some root) × IsHintOf root note)) notes
  pub all : (root : Data) → json_read bytes ≡ Some root → AreAllHints root told notes
