-- The places of a file, as the code goes over them.
use Rattle.std.specs.Prelude.{◌≡◌, ℕ, List, Option, Some, None, decimal}
use Rattle.std.specs.List.{Contains}
use Rattle.serde_json.specs.Data.{Data}
use Rattle.serde_json.specs.Find.{get, at}
use Rattle.serde_json.specs.View.{view}
use Rattle.flow_lint.specs.Keys.{IsOpened}
use Rattle.flow_lint.specs.Kinds.{IsList}
use Rattle.flow_lint.specs.Places.{FilePlace, StandsAt, IsLookedAt, ShowsNeed, below, inner}
use Rattle.flow_lint.specs.declared.node.Node.{Node}

-- What a place says is to be seen there.
abbrev pub place_of : Node → FilePlace
place_of node = record {
  around = node.around;
  kind = node.kind;
  level = node.level;
  last = node.key;
  value = view node.value.now;
}

-- It is to be seen there in the file.
abbrev pub Fits : Data → Node → Type 0
Fits root node = StandsAt root node.path (place_of node)

-- ---- all places

-- One of some nodes is this place at this path.
abbrev pub Has : List Node → List ℕ → FilePlace → Type 0
Has nodes path p = (node : Node) × (Contains nodes node × ((node.path ≡ path) × (place_of node ≡ p)))

-- Each place of a file that is looked at is one of these.
abbrev pub AreAll : Data → List Node → Type 0
AreAll root nodes = (path : List ℕ) (p : FilePlace) → IsLookedAt root path p → Has nodes path p

-- What is among some nodes is among others.
abbrev pub Keeps : List Node → List Node → Type 0
Keeps nodes others = (path : List ℕ) (p : FilePlace) → Has nodes path p → Has others path p

-- ---- what stands in a place

-- A node is what stands in a place behind this key or number, with this value.
abbrev pub IsInner : Node → List ℕ → Data → Node → Type 0
IsInner node last value made = (made.path ≡ below node.path last) × (place_of made ≡ inner (place_of node) last value)

-- What is made of what was found behind a key or number of a place.
abbrev pub GivesInner : Node → List ℕ → Option Data → Option Node → Type 0
GivesInner node last None None = Unit {0}
GivesInner node last None (Some made) = ⊥
GivesInner node last (Some value) None = ⊥
GivesInner node last (Some value) (Some made) = IsInner node last value made

abbrev pub HasAt : Node → List ℕ → Data → List Node → Type 0
HasAt node last value nodes = Has nodes (below node.path last) (inner (place_of node) last value)

-- Each member of a place is one of these, and each item.
abbrev pub HasMembers : Node → List Node → Type 0
HasMembers node nodes = (name : List ℕ) (value : Data) → get name (view node.value.now) ≡ Some value → HasAt node name value nodes

abbrev pub HasItems : Node → List Node → Type 0
HasItems node nodes = (place : ℕ) (value : Data) → at place (view node.value.now) ≡ Some value → HasAt node (decimal place) value nodes

-- What stands in a place, where it is looked at, is among these.
abbrev pub HasInner : Node → List Node → Type 0
HasInner node nodes = (IsOpened node.kind → HasMembers node nodes) × (IsList node.kind → HasItems node nodes)

-- ---- needs

-- No job has the id that is needed there.
abbrev pub HasNeed : Option Data → Node → Type 0
HasNeed jobs node = ShowsNeed jobs (place_of node)
