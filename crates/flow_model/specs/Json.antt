-- The JSON of a value, and the value of a JSON (RFC 8259, with whole numbers alone).
use Rattle.std.specs.Prelude.{◌≡◌, ℤ, pos, negsuc, Bool, true, ◌&&◌, if◌then◌else◌, Option, Some, None, option_map, option_and_then, Result, Ok, Err}
use Rattle.serde_json.specs.Data.{Num, unsigned, negative, float, Data, null, boolean, number, string, array, object, Items, no_items, item, Members, no_members, member}
use Rattle.serde_json.specs.Find.{of_integer}
use Rattle.flow_model.specs.Plain as plain
use Rattle.flow_model.specs.Rules.{is_whole}
use Rattle.flow_model.specs.declared.json.JsonFault.{JsonFault}
use Rattle.flow_model.specs.declared.json.JsonFault.TheVariants.{NotWhole, Memory}

-- the JSON that a value stands for
abbrev mutual
  pub json_of : plain.Plain → Data
  json_of plain.null = null
  json_of (plain.truth b) = boolean b
  json_of (plain.whole z) = number (of_integer z)
  json_of (plain.text bytes) = string bytes
  json_of (plain.list vs) = array (json_items vs)
  json_of (plain.map ms) = object (json_members ms)

  -- those of a list's items
  pub json_items : plain.Items → Items
  json_items plain.no_items = no_items
  json_items (plain.item v vs) = item (json_of v) (json_items vs)

  -- those of a map's members
  pub json_members : plain.Members → Members
  json_members plain.no_members = no_members
  json_members (plain.member key v ms) = member key (json_of v) (json_members ms)

-- a whole number, if it is in range
abbrev pub in_range : ℤ → Option ℤ
in_range z = if is_whole z then Some z else None

-- the whole number that a JSON number is, if it is held as one and in range
abbrev pub whole_of : Num → Option ℤ
whole_of (unsigned n) = in_range (pos n)
whole_of (negative (pos n)) = None
whole_of (negative (negsuc n)) = in_range (negsuc n)
whole_of (float x) = None

-- the value that a JSON stands for, if each number in it is a whole one
abbrev mutual
  pub value_of : Data → Option plain.Plain
  value_of null = Some plain.null
  value_of (boolean b) = Some (plain.truth b)
  value_of (number n) = option_map plain.whole (whole_of n)
  value_of (string bytes) = Some (plain.text bytes)
  value_of (array ds) = option_map plain.list (value_items ds)
  value_of (object ms) = option_map plain.map (value_members ms)

  -- those of an array's items
  pub value_items : Items → Option plain.Items
  value_items no_items = Some plain.no_items
  value_items (item d ds) = option_and_then (λ v. option_map (plain.item v) (value_items ds)) (value_of d)

  -- those of an object's members
  pub value_members : Members → Option plain.Members
  value_members no_members = Some plain.no_members
  value_members (member key d ms) = option_and_then (λ v. option_map (plain.member key v) (value_members ms)) (value_of d)

-- whether each number of a value is in range
abbrev mutual
  pub is_in_range : plain.Plain → Bool
  is_in_range plain.null = true
  is_in_range (plain.truth b) = true
  is_in_range (plain.whole z) = is_whole z
  is_in_range (plain.text bytes) = true
  is_in_range (plain.list vs) = items_in_range vs
  is_in_range (plain.map ms) = members_in_range ms

  -- the same of a list's items
  pub items_in_range : plain.Items → Bool
  items_in_range plain.no_items = true
  items_in_range (plain.item v vs) = is_in_range v && items_in_range vs

  -- the same of a map's members
  pub members_in_range : plain.Members → Bool
  members_in_range plain.no_members = true
  members_in_range (plain.member key v ms) = is_in_range v && members_in_range ms

-- What was read is the meaning; NotWhole says that there is none, and Memory says nothing.
abbrev pub ReadsAs : {A B : Type 0} → (A → B) → Result A JsonFault → Option B → Type 0
ReadsAs seen (Ok read) meaning = meaning ≡ Some (seen read)
ReadsAs seen (Err NotWhole) meaning = meaning ≡ None
ReadsAs seen (Err Memory) meaning = Unit {0}
