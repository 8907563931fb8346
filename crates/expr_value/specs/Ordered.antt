-- Values whose maps are as every map of a program is: the keys in byte order, each once.
use Rattle.std.specs.Prelude.{ℕ, List, [], ◌∷◌}
use Rattle.std.specs.Cmp.Lexicographic.{slice_cmp}
use Rattle.std.specs.List.{AllByRecursion}
use Rattle.std.specs.List.Sorted.{IsStrictlySortedBy}
use Rattle.std.specs.Ordering.{nat_cmp}
use Rattle.expr_value.specs.Context.{Contexts}
use Rattle.flow_model.specs.Plain.{Plain, null, truth, whole, text, list, map, Items, no_items, item, Members, no_members, member}

-- The keys of a map.
abbrev pub keys : Members → List (List ℕ)
keys no_members = []
keys (member key v ms) = key ∷ keys ms

abbrev mutual
  -- Each map in a value has its keys in order.
  pub HasOrderedKeys : Plain → Type 0
  HasOrderedKeys null = Unit {0}
  HasOrderedKeys (truth b) = Unit {0}
  HasOrderedKeys (whole z) = Unit {0}
  HasOrderedKeys (text bytes) = Unit {0}
  HasOrderedKeys (list vs) = ItemsHaveOrderedKeys vs
  HasOrderedKeys (map ms) = IsStrictlySortedBy (slice_cmp nat_cmp) (keys ms) × MembersHaveOrderedKeys ms

  pub ItemsHaveOrderedKeys : Items → Type 0
  ItemsHaveOrderedKeys no_items = Unit {0}
  ItemsHaveOrderedKeys (item v vs) = HasOrderedKeys v × ItemsHaveOrderedKeys vs

  pub MembersHaveOrderedKeys : Members → Type 0
  MembersHaveOrderedKeys no_members = Unit {0}
  MembersHaveOrderedKeys (member key v ms) = HasOrderedKeys v × MembersHaveOrderedKeys ms

-- Each context has its keys in order.
abbrev pub AreOrdered : Contexts → Type 0
AreOrdered contexts = AllByRecursion (λ p. HasOrderedKeys p.1) contexts
