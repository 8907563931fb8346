-- Equality of values, all the way down and by kind: a truth value is no number, and texts are equal byte by byte.
use Rattle.std.specs.Prelude.{Bool, true, false, not, ◌&&◌}
use Rattle.std.specs.Ordering.{int_eq}
use Rattle.std.specs.Str.{bytes_eq}
use Rattle.flow_model.specs.Plain as plain

-- whether these truth values are equal
abbrev pub same_truth : Bool → Bool → Bool
same_truth true b = b
same_truth false b = not b

-- whether two values are equal
abbrev mutual
  pub is_same : plain.Plain → plain.Plain → Bool
  is_same plain.null plain.null = true
  is_same (plain.truth a) (plain.truth b) = same_truth a b
  is_same (plain.whole a) (plain.whole b) = int_eq a b
  is_same (plain.text a) (plain.text b) = bytes_eq a b
  is_same (plain.list vs) (plain.list ws) = same_items vs ws
  is_same (plain.map ms) (plain.map ns) = same_members ms ns
  is_same v w = false

  -- whether two lists are equal, item by item
  pub same_items : plain.Items → plain.Items → Bool
  same_items plain.no_items plain.no_items = true
  same_items (plain.item v vs) (plain.item w ws) = is_same v w && same_items vs ws
  same_items vs ws = false

  -- whether two maps are equal, key by key and value by value
  pub same_members : plain.Members → plain.Members → Bool
  same_members plain.no_members plain.no_members = true
  same_members (plain.member j v ms) (plain.member k w ns) = bytes_eq j k && (is_same v w && same_members ms ns)
  same_members ms ns = false
