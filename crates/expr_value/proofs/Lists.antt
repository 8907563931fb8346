-- Lists and maps as they are kept beside what they stand for.
use Rattle.std.proofs.Common.{◌≡◌, ℕ, Bool, true, false, List, [], ◌∷◌, Option, Some, None, refl, ap, sym, ◌∙◌, cond}
use Rattle.std.specs.Option.{option_map, option_or}
use Rattle.std.specs.Cmp.Lexicographic.{slice_cmp}
use Rattle.std.specs.Ordering.{nat_cmp, is_eq}
use Rattle.expr_value.specs.Dereference.{first_at, is_same, is_alike, property_in}
use Rattle.expr_value.specs.PlainKind.{items}
use Rattle.flow_model.specs.Mapping.{value_at}
use Rattle.flow_model.specs.Plain as plain
use Rattle.flow_model.specs.Value.{view, viewed}
use Rattle.flow_model.specs.declared.value.Node.{Node}

-- the items of a list, made of a list
pub items-again : (vs : List plain.Plain) → items (plain.items_of vs) ≡ vs
items-again [] = refl
items-again (v ∷ vs) = ap (λ (ws : List plain.Plain). v ∷ ws) (items-again vs)

-- the first property of exactly a name is what stands at that key
pub first_at-value_at : (name : List ℕ) (ps : List (List ℕ × plain.Plain)) → first_at (is_same name) (plain.members_of ps) ≡ value_at name ps
first_at-value_at name [] = refl
first_at-value_at name (p ∷ ps) = ap (λ (r : Option plain.Plain). cond (is_eq (slice_cmp nat_cmp name p.0)) (Some p.1) r) (first_at-value_at name ps)

-- what stands at a key, each value seen as its data
pub value_at-viewed : (name : List ℕ) (ps : List (List ℕ × Node)) → value_at name (viewed ps) ≡ option_map view (value_at name ps)
value_at-viewed name [] = refl
value_at-viewed name (p ∷ ps) = ap (λ (r : Option plain.Plain). cond (is_eq (slice_cmp nat_cmp name p.0)) (Some (view p.1)) r) (value_at-viewed name ps) ∙ sym (cond-map (is_eq (slice_cmp nat_cmp name p.0)) p.1 (value_at name ps))
  where
    cond-map : (b : Bool) (n : Node) (o : Option Node) → option_map view (cond b (Some n) o) ≡ cond b (Some (view n)) (option_map view o)
    cond-map true n o = refl
    cond-map false n o = refl

-- the first property of exactly a name, as it is kept
pub exact-viewed : (name : List ℕ) (ps : List (List ℕ × Node)) → first_at (is_same name) (plain.members_of (viewed ps)) ≡ option_map view (value_at name ps)
exact-viewed name ps = first_at-value_at name (viewed ps) ∙ value_at-viewed name ps

-- a property of exactly the name is the one that is found
pub property_in-exact : (name : List ℕ) (ps : List (List ℕ × Node)) (node : Node) → value_at name ps ≡ Some node → property_in name (plain.members_of (viewed ps)) ≡ Some (view node)
property_in-exact name ps node at =
    ap (λ (o : Option plain.Plain). option_or o (first_at (is_alike name) (plain.members_of (viewed ps)))) (exact-viewed name ps ∙ ap (option_map view) at)

-- where there is none, it is the first that is alike
pub property_in-alike : (name : List ℕ) (ps : List (List ℕ × Node)) → value_at name ps ≡ None → property_in name (plain.members_of (viewed ps)) ≡ first_at (is_alike name) (plain.members_of (viewed ps))
property_in-alike name ps at =
    ap (λ (o : Option plain.Plain). option_or o (first_at (is_alike name) (plain.members_of (viewed ps)))) (exact-viewed name ps ∙ ap (option_map view) at)

-- the first key passes
pub first_at-here : (test : List ℕ → Bool) (key : List ℕ) (v : plain.Plain) (ms : plain.Members) → test key ≡ true → first_at test (plain.member key v ms) ≡ Some v
first_at-here test key v ms here = ap (λ (b : Bool). cond b (Some v) (first_at test ms)) here
