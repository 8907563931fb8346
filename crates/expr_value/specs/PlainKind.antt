-- What the conversions of a value look at.
use Rattle.std.specs.Prelude.{ℕ, ℤ, Bool, true, false, List, [], ◌∷◌}
use Rattle.flow_model.specs.Plain as plain

-- A value, but of a list or a map only that it is one.
pub data PlainKind : Type 0 where
  null : PlainKind
  truth : Bool → PlainKind
  whole : ℤ → PlainKind
  text : List ℕ → PlainKind
  list : PlainKind
  map : PlainKind

-- The kind of a value.
abbrev pub kind_of : plain.Plain → PlainKind
kind_of plain.null = null
kind_of (plain.truth b) = truth b
kind_of (plain.whole z) = whole z
kind_of (plain.text bytes) = text bytes
kind_of (plain.list vs) = list
kind_of (plain.map ms) = map

-- It is a list or a map.
abbrev pub is_collection : PlainKind → Bool
is_collection null = false
is_collection (truth b) = false
is_collection (whole z) = false
is_collection (text bytes) = false
is_collection list = true
is_collection map = true

-- The items of a list, in order.
abbrev pub items : plain.Items → List plain.Plain
items plain.no_items = []
items (plain.item v vs) = v ∷ items vs

-- The values of a map, in the order of their keys.
abbrev pub values : plain.Members → List plain.Plain
values plain.no_members = []
values (plain.member key v ms) = v ∷ values ms
