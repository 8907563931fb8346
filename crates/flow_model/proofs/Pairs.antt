-- A `BTreeMap` of `String`s beside the pairs that it stands for.
use Rattle.std.proofs.Common.{◌≡◌, ℕ, List, [], ◌∷◌, ◌++◌, Option, Some, String, Global, Ordering, Less, Equal, Greater, string_bytes, string_cmp, nat_cmp, is_eq, cond, refl, ap, sym, subst, append_assoc, ◌∙◌}
use Rattle.std.proofs.lemmas.Cmp.{nat_list_cmp_total}
use Rattle.std.specs.Cmp.Lexicographic.{slice_cmp}
use Rattle.std.specs.List.{AllByRecursion}
use Rattle.std.specs.List.Sorted.{IsStrictlySortedBy}
use Rattle.std.specs.Map.{keys_of as map_keys_of, lookup}
use Rattle.std.specs.Ordering.{match_ordering, ordering_reverse}
use Rattle.std.specs.BTreeMap.{insert_entry, is_at}
use Rattle.flow_model.specs.Mapping.{pairs_of, value_at, with_pair, keys_of, Ascends, map_values}

-- looking up in the map is looking up in the pairs
pub pairs-lookup : {V : Type 0} (key : List ℕ) (es : List (String Global × V)) → lookup (is_at (λ k. slice_cmp nat_cmp key (string_bytes k))) es ≡ value_at key (pairs_of es)
pairs-lookup key [] = refl
pairs-lookup {V} key (e ∷ es) = ap (λ (r : Option V). cond (is_eq (slice_cmp nat_cmp key (string_bytes e.0))) (Some e.1) r) (pairs-lookup key es)

pairs-match_ordering : {V : Type 0} (o : Ordering) (a b c : List (String Global × V)) → pairs_of (match_ordering o a b c) ≡ match_ordering o (pairs_of a) (pairs_of b) (pairs_of c)
pairs-match_ordering Less a b c = refl
pairs-match_ordering Equal a b c = refl
pairs-match_ordering Greater a b c = refl

-- what is inserted in the map stands in the pairs
pub pairs-insert_entry : {V : Type 0} (es : List (String Global × V)) (k : String Global) (v : V) → pairs_of (insert_entry string_cmp es k v) ≡ with_pair (string_bytes k) v (pairs_of es)
pairs-insert_entry [] k v = refl
pairs-insert_entry (e ∷ es) k v = pairs-match_ordering (string_cmp k e.0) _ _ _ ∙ rw (pairs-insert_entry es k v)

below_keys : {V : Type 0} (k : String Global) (es : List (String Global × V)) → AllByRecursion (λ y. string_cmp k y ≡ Less) (map_keys_of es) → AllByRecursion (λ y. slice_cmp nat_cmp (string_bytes k) y ≡ Less) (keys_of (pairs_of es))
below_keys k [] h = tt
below_keys k (e ∷ es) h = (h.0, below_keys k es h.1)

-- no pairs ascend
pub Ascends-none : (V : Type 0) → Ascends {V = V} []
unfolding IsStrictlySortedBy
Ascends-none V = tt

-- the pairs of a map ascend
pub Ascends-pairs_of : {V : Type 0} (es : List (String Global × V)) → IsStrictlySortedBy string_cmp (map_keys_of es) → Ascends (pairs_of es)
unfolding IsStrictlySortedBy
Ascends-pairs_of [] h = tt
Ascends-pairs_of (e ∷ es) h = (below_keys e.0 es h.0, Ascends-pairs_of es h.1)

below_middle : {V : Type 0} (name : List ℕ) (ps : List (List ℕ × V)) (k : List ℕ) (v : V) (more : List (List ℕ × V)) → AllByRecursion (λ y. slice_cmp nat_cmp name y ≡ Less) (keys_of (ps ++ (k, v) ∷ more)) → slice_cmp nat_cmp name k ≡ Less
below_middle name [] k v more h = h.0
below_middle name (p ∷ ps) k v more h = below_middle name ps k v more h.1

-- a key that is above those before it goes last
pub with_pair-last : {V : Type 0} (ps : List (List ℕ × V)) (k : List ℕ) (v : V) (more : List (List ℕ × V)) → Ascends (ps ++ (k, v) ∷ more) → with_pair k v ps ≡ ps ++ (k, v) ∷ []
unfolding IsStrictlySortedBy
with_pair-last [] k v more h = refl
with_pair-last (p ∷ ps) k v more h =
    let above : slice_cmp nat_cmp k p.0 ≡ Greater =
    nat_list_cmp_total.antisymm k p.0 ∙ ap ordering_reverse (below_middle p.0 ps k v more h.0) in
    rw above (ap (λ qs. p ∷ qs) (with_pair-last ps k v more h.1))

-- setting the next of some ascending pairs moves it from those that are left to those that are done
pub with_pair-next : {V : Type 0} (done : List (List ℕ × V)) (k : List ℕ) (v : V) (left all : List (List ℕ × V)) → done ++ (k, v) ∷ left ≡ all → Ascends all → with_pair k v done ++ left ≡ all
with_pair-next {V} done k v left all e h =
    rw (with_pair-last done k v left (subst (λ (ps : List (List ℕ × V)). Ascends ps) (sym e) h)) (append_assoc done ((k, v) ∷ []) left ∙ e)

map_values-match_ordering : {V W : Type 0} (f : V → W) (o : Ordering) (a b c : List (List ℕ × V)) → map_values f (match_ordering o a b c) ≡ match_ordering o (map_values f a) (map_values f b) (map_values f c)
map_values-match_ordering f Less a b c = refl
map_values-match_ordering f Equal a b c = refl
map_values-match_ordering f Greater a b c = refl

-- setting a value and then putting all through f is putting it through f and then setting it
pub map_values-with_pair : {V W : Type 0} (f : V → W) (k : List ℕ) (v : V) (ps : List (List ℕ × V)) → map_values f (with_pair k v ps) ≡ with_pair k (f v) (map_values f ps)
map_values-with_pair f k v [] = refl
map_values-with_pair f k v (p ∷ ps) = map_values-match_ordering f (slice_cmp nat_cmp k p.0) _ _ _ ∙ rw (map_values-with_pair f k v ps)

keys_of-map_values : {V W : Type 0} (f : V → W) (ps : List (List ℕ × V)) → keys_of (map_values f ps) ≡ keys_of ps
keys_of-map_values f [] = refl
keys_of-map_values f (p ∷ ps) = ap (λ (ks : List (List ℕ)). p.0 ∷ ks) (keys_of-map_values f ps)

-- the keys stay
pub Ascends-map_values : {V W : Type 0} (f : V → W) (ps : List (List ℕ × V)) → Ascends ps → Ascends (map_values f ps)
Ascends-map_values f ps h = rw (keys_of-map_values f ps) h
