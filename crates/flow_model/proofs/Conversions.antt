-- Values and their JSON: each is found again from the other.
use Rattle.std.proofs.Common.{◌≡◌, ◌≤◌, ◌-◌, arith, ℕ, ◌+◌, ℤ, pos, negsuc, List, [], ◌∷◌, ◌++◌, map, Bool, true, false, IsTrue, nat_lt, cond, String, Global, string_bytes, Option, Some, None, option_map, refl, sym, subst, ap, ◌∙◌, ◌<◌, suc, length, get_or, drop, add-one, drop-cons}
use Rattle.std.proofs.lemmas.Bool.Decides.{nat_tests}
use Rattle.std.specs.Option.{option_and_then}
use Rattle.serde_json.specs.Data.{Num, unsigned, negative, float, Data, null, boolean, number, string, array, object, Items, no_items, item, Members, no_members, member, depth, items_depth, members_depth}
use Rattle.serde_json.specs.Find.{of_integer}
use Rattle.serde_json.specs.View.{view as json_view, items_of, items_view, members_view}
use Rattle.serde_json.specs.Written.{has_float, items_have_float, members_have_float}
use Rattle.serde_json.specs.declared.value.Value.{Value as JsonValue}
use Rattle.flow_model.specs.Json.{json_of, json_items, json_members, whole_of, value_of, value_items, value_members, is_in_range, items_in_range, members_in_range}
use Rattle.flow_model.specs.Mapping.{pairs_of, map_values}
use Rattle.flow_model.specs.Plain as plain
use Rattle.flow_model.specs.Rules.{is_whole, is_within, items_within, members_within}
use Rattle.flow_model.specs.Value.{view, views, viewed}
use Rattle.flow_model.specs.declared.value.Node.{Node}
use Rattle.flow_model.proofs.Places.{same_Some}
use Rattle.flow_model.proofs.Tests.{both, pair}

-- ---- options

-- what was mapped to
pub from_map : {A B : Type 0} (f : A → B) (o : Option A) (b : B) → option_map f o ≡ Some b → (a : A) × ((o ≡ Some a) × (f a ≡ b))
from_map f None b e = absurd (cc)
from_map f (Some a) b e = (a, (refl, same_Some e))

-- what went on
pub from_and_then : {A B : Type 0} (f : A → Option B) (o : Option A) (b : B) → option_and_then f o ≡ Some b → (a : A) × ((o ≡ Some a) × (f a ≡ Some b))
from_and_then f None b e = absurd (cc)
from_and_then f (Some a) b e = (a, (refl, e))

-- ---- whole numbers

if_true : {A : Type 0} (b : Bool) (x y : A) → IsTrue b → cond b x y ≡ x
if_true true x y h = refl
if_true false x y h = absurd (cc)

from_if : {A : Type 0} (b : Bool) (x y : A) → cond b (Some x) None ≡ Some y → IsTrue b × (x ≡ y)
from_if true x y e = (refl, same_Some e)
from_if false x y e = absurd (cc)

pub whole_again : (z : ℤ) → IsTrue (is_whole z) → whole_of (of_integer z) ≡ Some z
whole_again (pos n) h = if_true (is_whole (pos n)) (Some (pos n)) None h
whole_again (negsuc n) h = if_true (is_whole (negsuc n)) (Some (negsuc n)) None h

pub whole_only : (n : Num) (z : ℤ) → whole_of n ≡ Some z → of_integer z ≡ n
whole_only (unsigned n) z e = ap of_integer (sym (from_if (is_whole (pos n)) (pos n) z e).1)
whole_only (negative (pos n)) z e = absurd (cc)
whole_only (negative (negsuc n)) z e = ap of_integer (sym (from_if (is_whole (negsuc n)) (negsuc n) z e).1)
whole_only (float x) z e = absurd (cc)

pub whole_is_whole : (n : Num) (z : ℤ) → whole_of n ≡ Some z → IsTrue (is_whole z)
whole_is_whole (unsigned n) z e =
    let r = from_if (is_whole (pos n)) (pos n) z e in
    subst (λ w. IsTrue (is_whole w)) r.1 r.0
whole_is_whole (negative (pos n)) z e = absurd (cc)
whole_is_whole (negative (negsuc n)) z e =
    let r = from_if (is_whole (negsuc n)) (negsuc n) z e in
    subst (λ w. IsTrue (is_whole w)) r.1 r.0
whole_is_whole (float x) z e = absurd (cc)

-- ---- values

-- the JSON of a value in range has that value
mutual
  pub value_again : (v : plain.Plain) → IsTrue (is_in_range v) → value_of (json_of v) ≡ Some v
  value_again plain.null h = refl
  value_again (plain.truth b) h = refl
  value_again (plain.whole z) h = ap (option_map plain.whole) (whole_again z h)
  value_again (plain.text bytes) h = refl
  value_again (plain.list vs) h = ap (option_map plain.list) (items_again vs h)
  value_again (plain.map ms) h = ap (option_map plain.map) (members_again ms h)

  items_again : (vs : plain.Items) → IsTrue (items_in_range vs) → value_items (json_items vs) ≡ Some vs
  items_again plain.no_items h = refl
  items_again (plain.item v vs) h =
      let hs = both (is_in_range v) (items_in_range vs) h in
      rw (value_again v hs.0, items_again vs hs.1)

  members_again : (ms : plain.Members) → IsTrue (members_in_range ms) → value_members (json_members ms) ≡ Some ms
  members_again plain.no_members h = refl
  members_again (plain.member key v ms) h =
      let hs = both (is_in_range v) (members_in_range ms) h in
      rw (value_again v hs.0, members_again ms hs.1)

-- a value is that of its JSON alone
mutual
  pub value_only : (d : Data) (v : plain.Plain) → value_of d ≡ Some v → json_of v ≡ d
  value_only null v e = ap json_of (sym (same_Some e))
  value_only (boolean b) v e = ap json_of (sym (same_Some e))
  value_only (number n) v e =
      let r = from_map plain.whole (whole_of n) v e in
      ap json_of (sym r.1.1) ∙ ap number (whole_only n r.0 r.1.0)
  value_only (string bytes) v e = ap json_of (sym (same_Some e))
  value_only (array ds) v e =
      let r = from_map plain.list (value_items ds) v e in
      ap json_of (sym r.1.1) ∙ ap array (items_only ds r.0 r.1.0)
  value_only (object ms) v e =
      let r = from_map plain.map (value_members ms) v e in
      ap json_of (sym r.1.1) ∙ ap object (members_only ms r.0 r.1.0)

  items_only : (ds : Items) (vs : plain.Items) → value_items ds ≡ Some vs → json_items vs ≡ ds
  items_only no_items vs e = ap json_items (sym (same_Some e))
  items_only (item d ds) vs e =
      let r = from_and_then (λ v. option_map (plain.item v) (value_items ds)) (value_of d) vs e in
      let s = from_map (plain.item r.0) (value_items ds) vs r.1.1 in
      ap json_items (sym s.1.1) ∙ (λ i. item (value_only d r.0 r.1.0 i) (items_only ds s.0 s.1.0 i))

  members_only : (ms : Members) (vs : plain.Members) → value_members ms ≡ Some vs → json_members vs ≡ ms
  members_only no_members vs e = ap json_members (sym (same_Some e))
  members_only (member key d ms) vs e =
      let r = from_and_then (λ v. option_map (plain.member key v) (value_members ms)) (value_of d) vs e in
      let s = from_map (plain.member key r.0) (value_members ms) vs r.1.1 in
      ap json_members (sym s.1.1) ∙ (λ i. member key (value_only d r.0 r.1.0 i) (members_only ms s.0 s.1.0 i))

-- what is read is in range
mutual
  pub value_in_range : (d : Data) (v : plain.Plain) → value_of d ≡ Some v → IsTrue (is_in_range v)
  value_in_range null v e = subst (λ w. IsTrue (is_in_range w)) (same_Some e) refl
  value_in_range (boolean b) v e = subst (λ w. IsTrue (is_in_range w)) (same_Some e) refl
  value_in_range (number n) v e =
      let r = from_map plain.whole (whole_of n) v e in
      subst (λ w. IsTrue (is_in_range w)) r.1.1 (whole_is_whole n r.0 r.1.0)
  value_in_range (string bytes) v e = subst (λ w. IsTrue (is_in_range w)) (same_Some e) refl
  value_in_range (array ds) v e =
      let r = from_map plain.list (value_items ds) v e in
      subst (λ w. IsTrue (is_in_range w)) r.1.1 (items_are_in_range ds r.0 r.1.0)
  value_in_range (object ms) v e =
      let r = from_map plain.map (value_members ms) v e in
      subst (λ w. IsTrue (is_in_range w)) r.1.1 (members_are_in_range ms r.0 r.1.0)

  items_are_in_range : (ds : Items) (vs : plain.Items) → value_items ds ≡ Some vs → IsTrue (items_in_range vs)
  items_are_in_range no_items vs e = subst (λ ws. IsTrue (items_in_range ws)) (same_Some e) refl
  items_are_in_range (item d ds) vs e =
      let r = from_and_then (λ v. option_map (plain.item v) (value_items ds)) (value_of d) vs e in
      let s = from_map (plain.item r.0) (value_items ds) vs r.1.1 in
      subst (λ ws. IsTrue (items_in_range ws)) s.1.1 (pair _ _ (value_in_range d r.0 r.1.0) (items_are_in_range ds s.0 s.1.0))

  members_are_in_range : (ms : Members) (vs : plain.Members) → value_members ms ≡ Some vs → IsTrue (members_in_range vs)
  members_are_in_range no_members vs e = subst (λ ws. IsTrue (members_in_range ws)) (same_Some e) refl
  members_are_in_range (member key d ms) vs e =
      let r = from_and_then (λ v. option_map (plain.member key v) (value_members ms)) (value_of d) vs e in
      let s = from_map (plain.member key r.0) (value_members ms) vs r.1.1 in
      subst (λ ws. IsTrue (members_in_range ws)) s.1.1 (pair _ _ (value_in_range d r.0 r.1.0) (members_are_in_range ms s.0 s.1.0))

pub integer_exact : (z : ℤ) → has_float (number (of_integer z)) ≡ false
integer_exact (pos n) = refl
integer_exact (negsuc n) = refl

-- a value's JSON holds no float
mutual
  pub value_exact : (v : plain.Plain) → has_float (json_of v) ≡ false
  value_exact plain.null = refl
  value_exact (plain.truth b) = refl
  value_exact (plain.whole z) = integer_exact z
  value_exact (plain.text bytes) = refl
  value_exact (plain.list vs) = items_exact vs
  value_exact (plain.map ms) = members_exact ms

  items_exact : (vs : plain.Items) → items_have_float (json_items vs) ≡ false
  items_exact plain.no_items = refl
  items_exact (plain.item v vs) = rw (value_exact v) (items_exact vs)

  members_exact : (ms : plain.Members) → members_have_float (json_members ms) ≡ false
  members_exact plain.no_members = refl
  members_exact (plain.member key v ms) = rw (value_exact v) (members_exact ms)

-- a value within some depth is in range
mutual
  pub is_within-in_range : (room : ℕ) (v : plain.Plain) → IsTrue (is_within room v) → IsTrue (is_in_range v)
  is_within-in_range room plain.null h = refl
  is_within-in_range room (plain.truth b) h = refl
  is_within-in_range room (plain.whole z) h = h
  is_within-in_range room (plain.text bytes) h = refl
  is_within-in_range room (plain.list vs) h = items_within-in_range (room - 1) vs (both _ _ h).1
  is_within-in_range room (plain.map ms) h = members_within-in_range (room - 1) ms (both _ _ h).1

  items_within-in_range : (room : ℕ) (vs : plain.Items) → IsTrue (items_within room vs) → IsTrue (items_in_range vs)
  items_within-in_range room plain.no_items h = refl
  items_within-in_range room (plain.item v vs) h =
      let hs = both (is_within room v) (items_within room vs) h in
      pair _ _ (is_within-in_range room v hs.0) (items_within-in_range room vs hs.1)

  members_within-in_range : (room : ℕ) (ms : plain.Members) → IsTrue (members_within room ms) → IsTrue (members_in_range ms)
  members_within-in_range room plain.no_members h = refl
  members_within-in_range room (plain.member key v ms) h =
      let hs = both (is_within room v) (members_within room ms) h in
      pair _ _ (is_within-in_range room v hs.0) (members_within-in_range room ms hs.1)

-- its JSON nests as deep as it does
mutual
  pub depth-json_of : (room : ℕ) (v : plain.Plain) → IsTrue (is_within room v) → depth (json_of v) ≤ room
  depth-json_of room plain.null h = omega arith
  depth-json_of room (plain.truth b) h = omega arith
  depth-json_of room (plain.whole z) h = omega arith
  depth-json_of room (plain.text bytes) h = omega arith
  depth-json_of room (plain.list vs) h =
      let hs = both (nat_lt 0 room) (items_within (room - 1) vs) h in
      let inside = items_depth-json_items (room - 1) vs hs.1 in
      grind (arith, nat_tests, hs.0, inside)
  depth-json_of room (plain.map ms) h =
      let hs = both (nat_lt 0 room) (members_within (room - 1) ms) h in
      let inside = members_depth-json_members (room - 1) ms hs.1 in
      grind (arith, nat_tests, hs.0, inside)

  items_depth-json_items : (room : ℕ) (vs : plain.Items) → IsTrue (items_within room vs) → items_depth (json_items vs) ≤ room
  items_depth-json_items room plain.no_items h = omega arith
  items_depth-json_items room (plain.item v vs) h =
      let hs = both (is_within room v) (items_within room vs) h in
      omega (arith, depth-json_of room v hs.0, items_depth-json_items room vs hs.1)

  members_depth-json_members : (room : ℕ) (ms : plain.Members) → IsTrue (members_within room ms) → members_depth (json_members ms) ≤ room
  members_depth-json_members room plain.no_members h = omega arith
  members_depth-json_members room (plain.member key v ms) h =
      let hs = both (is_within room v) (members_within room ms) h in
      omega (arith, depth-json_of room v hs.0, members_depth-json_members room ms hs.1)

-- ---- the loops: a list or a map so far, before what is left

-- the JSON of a list of nodes
pub json_items-views : (nodes : List Node) → json_items (plain.items_of (views nodes)) ≡ items_of (map (λ n. json_of (view n)) nodes)
json_items-views [] = refl
json_items-views (n ∷ nodes) = ap (item (json_of (view n))) (json_items-views nodes)

-- members from pairs
abbrev pub joined : List (List ℕ × Data) → Members
joined [] = no_members
joined (p ∷ ps) = member p.0 p.1 (joined ps)

pub members_view-joined : (es : List (String Global × JsonValue)) → members_view es ≡ joined (map_values json_view (pairs_of es))
members_view-joined [] = refl
members_view-joined (e ∷ es) = ap (member (string_bytes e.0) (json_view e.1)) (members_view-joined es)

-- the JSON of a map of nodes
pub json_members-viewed : (ps : List (List ℕ × Node)) → json_members (plain.members_of (viewed ps)) ≡ joined (map_values (λ n. json_of (view n)) ps)
json_members-viewed [] = refl
json_members-viewed (p ∷ ps) = ap (member p.0 (json_of (view p.1))) (json_members-viewed ps)

-- items put before others
abbrev pub items_then : List plain.Plain → plain.Items → plain.Items
items_then [] more = more
items_then (v ∷ vs) more = plain.item v (items_then vs more)

items_then-push : (vs : List plain.Plain) (v : plain.Plain) (more : plain.Items) → items_then vs (plain.item v more) ≡ items_then (vs ++ v ∷ []) more
items_then-push [] v more = refl
items_then-push (w ∷ vs) v more = ap (plain.item w) (items_then-push vs v more)

pub items_then-end : (vs : List plain.Plain) → items_then vs plain.no_items ≡ plain.items_of vs
items_then-end [] = refl
items_then-end (v ∷ vs) = ap (plain.item v) (items_then-end vs)

-- one more item that was read
pub items_read : (vs : List plain.Plain) (v : plain.Plain) (rest : Option plain.Items)
    → option_map (items_then vs) (option_map (plain.item v) rest) ≡ option_map (items_then (vs ++ v ∷ [])) rest
items_read vs v None = refl
items_read vs v (Some more) = ap Some (items_then-push vs v more)

-- pairs put before members
abbrev pub members_then : List (List ℕ × plain.Plain) → plain.Members → plain.Members
members_then [] more = more
members_then (p ∷ ps) more = plain.member p.0 p.1 (members_then ps more)

members_then-push : (ps : List (List ℕ × plain.Plain)) (k : List ℕ) (v : plain.Plain) (more : plain.Members)
    → members_then ps (plain.member k v more) ≡ members_then (ps ++ (k, v) ∷ []) more
members_then-push [] k v more = refl
members_then-push (p ∷ ps) k v more = ap (plain.member p.0 p.1) (members_then-push ps k v more)

pub members_then-end : (ps : List (List ℕ × plain.Plain)) → members_then ps plain.no_members ≡ plain.members_of ps
members_then-end [] = refl
members_then-end (p ∷ ps) = ap (plain.member p.0 p.1) (members_then-end ps)

-- one more pair that was read
pub members_read : (ps : List (List ℕ × plain.Plain)) (k : List ℕ) (v : plain.Plain) (rest : Option plain.Members)
    → option_map (members_then ps) (option_map (plain.member k v) rest) ≡ option_map (members_then (ps ++ (k, v) ∷ [])) rest
members_read ps k v None = refl
members_read ps k v (Some more) = ap Some (members_then-push ps k v more)

pub items_step : (vs : List plain.Plain) (v : plain.Plain) (d : JsonValue) (left : List JsonValue) (all : Option plain.Items)
    → option_map (items_then vs) (value_items (items_view (d ∷ left))) ≡ all → value_of (json_view d) ≡ Some v
    → option_map (items_then (vs ++ v ∷ [])) (value_items (items_view left)) ≡ all
items_step vs v d left all e h =
    let rest = value_items (items_view left) in
    sym (items_read vs v rest)
    ∙ ap (λ (o : Option plain.Plain). option_map (items_then vs) (option_and_then (λ w. option_map (plain.item w) rest) o)) (sym h) ∙ e

pub members_step : (ps : List (List ℕ × plain.Plain)) (v : plain.Plain) (e : String Global × JsonValue) (left : List (String Global × JsonValue)) (all : Option plain.Members)
    → option_map (members_then ps) (value_members (members_view (e ∷ left))) ≡ all → value_of (json_view e.1) ≡ Some v
    → option_map (members_then (ps ++ (string_bytes e.0, v) ∷ [])) (value_members (members_view left)) ≡ all
members_step ps v e left all is h =
    let rest = value_members (members_view left) in
    sym (members_read ps (string_bytes e.0) v rest)
    ∙ ap (λ (o : Option plain.Plain). option_map (members_then ps) (option_and_then (λ w. option_map (plain.member (string_bytes e.0) w) rest) o)) (sym h) ∙ is

-- a list of no length has no items
pub none_left : {X : Type 0} (xs : List X) → length xs ≡ 0 → xs ≡ []
none_left [] e = refl
none_left (x ∷ xs) e = absurd (omega arith)

-- the next item and those after it
pub drop-next : {X : Type 0} (xs : List X) (i : ℕ) (x : X) → i < length xs → x ≡ get_or xs i x → drop i xs ≡ x ∷ drop (i + 1) xs
drop-next {X} xs i x h e = rw add-one (drop-cons xs i x h ∙ ap (λ (y : X). y ∷ drop (suc i) xs) (sym e))
