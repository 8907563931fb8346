-- The text of a value's JSON.
use Rattle.std.proofs.Common.{◌≡◌, ℕ, ℤ, pos, negsuc, Bool, true, false, ◌||◌, List, refl, ap, ◌∙◌}
use Rattle.json.specs.Layout.{pretty}
use Rattle.json.specs.Lex.{tokens}
use Rattle.serde_json.specs.Data.{Data}
use Rattle.serde_json.specs.Find.{of_integer, is_float}
use Rattle.serde_json.specs.Written.{IsInOrder, has_float, items_have_float, members_have_float}
use Rattle.serde_json.proofs.Texts.{tokens_from_order}
use Rattle.expr_value.specs.Functions.{pretty_text}
use Rattle.flow_model.specs.Json.{json_of, json_items, json_members}
use Rattle.flow_model.specs.Plain.{Plain, null, truth, whole, text, list, map, Items, no_items, item, Members, no_members, member}

either : (a b : Bool) → a ≡ false → b ≡ false → (a || b) ≡ false
either true b at_a at_b = at_a
either false b at_a at_b = at_b

whole_no_float : (z : ℤ) → is_float (of_integer z) ≡ false
whole_no_float (pos n) = refl
whole_no_float (negsuc n) = refl

-- The JSON of a value has no number but whole ones.
mutual
  pub no_float : (v : Plain) → has_float (json_of v) ≡ false
  no_float null = refl
  no_float (truth b) = refl
  no_float (whole z) = whole_no_float z
  no_float (text bytes) = refl
  no_float (list vs) = items_no_float vs
  no_float (map ms) = members_no_float ms

  items_no_float : (vs : Items) → items_have_float (json_items vs) ≡ false
  items_no_float no_items = refl
  items_no_float (item v vs) = either (has_float (json_of v)) (items_have_float (json_items vs)) (no_float v) (items_no_float vs)

  members_no_float : (ms : Members) → members_have_float (json_members ms) ≡ false
  members_no_float no_members = refl
  members_no_float (member key v ms) = either (has_float (json_of v)) (members_have_float (json_members ms)) (no_float v) (members_no_float ms)

-- A text that is laid out so and has the JSON of a value in order is its text.
pub pretty_exact : (bytes : List ℕ) (v : Plain) (d : Data) → bytes ≡ pretty (tokens bytes) → IsInOrder bytes d → d ≡ json_of v → bytes ≡ pretty_text (json_of v)
pretty_exact bytes v d layout order same = layout ∙ ap pretty (tokens_from_order bytes d order (ap has_float same ∙ no_float v)) ∙ ap pretty_text same
