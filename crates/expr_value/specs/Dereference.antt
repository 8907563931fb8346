-- Properties, items and filtered lists (GitHub Docs, "Evaluate expressions in workflows and actions": object
-- filters).
use Rattle.std.specs.Prelude.{ℕ, ℤ, pos, negsuc, Bool, if◌then◌else◌, Option, Some, None, Result, Ok, Err, List, [], ◌∷◌}
use Rattle.std.specs.Cmp.Lexicographic.{slice_cmp}
use Rattle.std.specs.List.{slice_get, filter_map, cons_option, flat_map}
use Rattle.std.specs.Option.{option_or}
use Rattle.std.specs.Ordering.{nat_cmp, is_eq}
use Rattle.expr_reader.specs.Fold.{fold}
use Rattle.expr_value.specs.Convert.{text_of, number_of}
use Rattle.expr_value.specs.PlainKind.{PlainKind, items, values}
use Rattle.flow_model.specs.Plain as plain
use Rattle.flow_model.specs.declared.reply.ValueFault.{ValueFault}

-- What a chain of dereferences has come to: one value, or a filtered list.
pub data Found : Type 0 where
  one : plain.Plain → Found
  filtered : List plain.Plain → Found

-- What it is outside the chain: a filtered list is a list.
abbrev pub outside : Found → plain.Plain
outside (one v) = v
outside (filtered vs) = plain.list (plain.items_of vs)

-- Two texts are the same.
abbrev pub is_same : List ℕ → List ℕ → Bool
is_same a b = is_eq (slice_cmp nat_cmp a b)

-- Two texts are the same ignoring case.
abbrev pub is_alike : List ℕ → List ℕ → Bool
is_alike a b = is_same (fold a) (fold b)

-- The first value whose key passes a test.
abbrev pub first_at : (List ℕ → Bool) → plain.Members → Option plain.Plain
first_at test plain.no_members = None
first_at test (plain.member key v ms) = if test key then Some v else first_at test ms

-- The property of exactly that name, else the first in key order that equals it ignoring case.
abbrev pub property_in : List ℕ → plain.Members → Option plain.Plain
property_in name ms = option_or (first_at (is_same name) ms) (first_at (is_alike name) ms)

-- The property of a value, where it is a map that has it.
abbrev pub property_of : List ℕ → plain.Plain → Option plain.Plain
property_of name plain.null = None
property_of name (plain.truth b) = None
property_of name (plain.whole z) = None
property_of name (plain.text bytes) = None
property_of name (plain.list vs) = None
property_of name (plain.map ms) = property_in name ms

-- The item at a number, from 0.
abbrev pub item_at : Option ℤ → List plain.Plain → Option plain.Plain
item_at None vs = None
item_at (Some (pos n)) vs = slice_get vs n
item_at (Some (negsuc n)) vs = None

-- The item at a number that may be a fault.
abbrev pub item_found : Result (Option ℤ) ValueFault → List plain.Plain → Result (Option plain.Plain) ValueFault
item_found (Ok number) vs = Ok (item_at number vs)
item_found (Err fault) vs = Err fault

-- What stands at an index in a value: in a list at its number, in a map at its text. Of other values it is not
-- looked at.
abbrev pub index_of : PlainKind → plain.Plain → Result (Option plain.Plain) ValueFault
index_of index plain.null = Ok None
index_of index (plain.truth b) = Ok None
index_of index (plain.whole z) = Ok None
index_of index (plain.text bytes) = Ok None
index_of index (plain.list vs) = item_found (number_of index) (items vs)
index_of index (plain.map ms) = Ok (property_in (text_of index) ms)

-- The items of a list, the values of a map in key order, of anything else nothing.
abbrev pub contents : plain.Plain → List plain.Plain
contents plain.null = []
contents (plain.truth b) = []
contents (plain.whole z) = []
contents (plain.text bytes) = []
contents (plain.list vs) = items vs
contents (plain.map ms) = values ms

-- ---- on one value, and on each item of a filtered list

-- A value, or null.
abbrev pub or_null : Option plain.Plain → plain.Plain
or_null None = plain.null
or_null (Some v) = v

-- .name of one value, or of each item that has the property.
abbrev pub property_found : List ℕ → Found → Found
property_found name (one v) = one (or_null (property_of name v))
property_found name (filtered vs) = filtered (filter_map (property_of name) vs)

-- One value that stands somewhere, or null.
abbrev pub one_or_null : Result (Option plain.Plain) ValueFault → Result Found ValueFault
one_or_null (Ok v) = Ok (one (or_null v))
one_or_null (Err fault) = Err fault

-- With the first item's answer before those of the others.
abbrev pub with_found : Result (Option plain.Plain) ValueFault → Result (List plain.Plain) ValueFault
    → Result (List plain.Plain) ValueFault
with_found (Ok v) (Ok vs) = Ok (cons_option v vs)
with_found (Ok v) (Err fault) = Err fault
with_found (Err fault) vs = Err fault

-- What stands at an index in each item that has it.
abbrev pub index_each : PlainKind → List plain.Plain → Result (List plain.Plain) ValueFault
index_each index [] = Ok []
index_each index (v ∷ vs) = with_found (index_of index v) (index_each index vs)

-- Those as a filtered list.
abbrev pub filtered_of : Result (List plain.Plain) ValueFault → Result Found ValueFault
filtered_of (Ok vs) = Ok (filtered vs)
filtered_of (Err fault) = Err fault

-- [index] of one value, or of each item that has it.
abbrev pub index_found : PlainKind → Found → Result Found ValueFault
index_found index (one v) = one_or_null (index_of index v)
index_found index (filtered vs) = filtered_of (index_each index vs)

-- .* of one value, or of each item, one after the other.
abbrev pub all_found : Found → Found
all_found (one v) = filtered (contents v)
all_found (filtered vs) = filtered (flat_map contents vs)
