-- What a name is found with, after a pair was set.
use Rattle.std.proofs.Common.{◌≡◌, ◌≢◌, ℕ, false, List, [], ◌∷◌, Option, Some, None, cond, Ordering, Less, Equal, Greater, nat_cmp, is_eq, refl, sym, ap, ◌∙◌}
use Rattle.std.proofs.lemmas.Cmp.{nat_list_cmp_total}
use Rattle.std.specs.Cmp.Lexicographic.{slice_cmp}
use Rattle.std.specs.FinMap.{nat_cmp-IsAntisymmetric, slice_cmp-IsAntisymmetric}
use Rattle.std.specs.List.{AllByRecursion}
use Rattle.std.specs.List.Sorted.{IsStrictlySortedBy}
use Rattle.std.specs.Ordering.{match_ordering, ordering_reverse}
use Rattle.flow_model.specs.Mapping.{keys_of, value_at, with_pair, Ascends}

-- two names between which there is no order are one
pub one_name : (a b : List ℕ) → slice_cmp nat_cmp a b ≡ Equal → a ≡ b
one_name a b e = slice_cmp-IsAntisymmetric nat_cmp-IsAntisymmetric a b e

-- a name is itself
pub name_itself : (k : List ℕ) → slice_cmp nat_cmp k k ≡ Equal
name_itself k = go (slice_cmp nat_cmp k k) (nat_list_cmp_total.antisymm k k)
  where
    go : (o : Ordering) → o ≡ ordering_reverse o → o ≡ Equal
    go Less e = cc
    go Equal e = refl
    go Greater e = cc

no_match : (q k : List ℕ) → q ≢ k → is_eq (slice_cmp nat_cmp q k) ≡ false
no_match q k differs = go (slice_cmp nat_cmp q k) refl
  where
    go : (o : Ordering) → slice_cmp nat_cmp q k ≡ o → is_eq o ≡ false
    go Less is = refl
    go Equal is = absurd (differs (one_name q k is))
    go Greater is = refl

-- the name that is set is found as it was set
pub found_same : {V : Type 0} (k : List ℕ) (v : V) (ps : List (List ℕ × V)) → value_at k (with_pair k v ps) ≡ Some v
found_same k v [] = rw (name_itself k) refl
found_same {V} k v (p ∷ ps) = go (slice_cmp nat_cmp k p.0) refl (found_same k v ps)
  where
    go : (o : Ordering) → slice_cmp nat_cmp k p.0 ≡ o → value_at k (with_pair k v ps) ≡ Some v
        → value_at k (match_ordering o ((k, v) ∷ p ∷ ps) ((p.0, v) ∷ ps) (p ∷ with_pair k v ps)) ≡ Some v
    go Less is ih = rw (name_itself k) refl
    go Equal is ih = rw is refl
    go Greater is ih = rw is ih

-- another name is found as before
pub found_other : {V : Type 0} (q k : List ℕ) (v : V) (ps : List (List ℕ × V)) → q ≢ k → value_at q (with_pair k v ps) ≡ value_at q ps
found_other q k v [] differs = rw (no_match q k differs) refl
found_other {V} q k v (p ∷ ps) differs = go (slice_cmp nat_cmp k p.0) refl (found_other q k v ps differs)
  where
    go : (o : Ordering) → slice_cmp nat_cmp k p.0 ≡ o → value_at q (with_pair k v ps) ≡ value_at q ps
        → value_at q (match_ordering o ((k, v) ∷ p ∷ ps) ((p.0, v) ∷ ps) (p ∷ with_pair k v ps)) ≡ value_at q (p ∷ ps)
    go Less is ih = rw (no_match q k differs) refl
    go Equal is ih = let none = no_match q p.0 (λ e. differs (e ∙ sym (one_name k p.0 is))) in rw none refl
    go Greater is ih = ap (λ (r : Option V). cond (is_eq (slice_cmp nat_cmp q p.0)) (Some p.1) r) ih

-- a name is below those of all pairs
abbrev pub IsBelowKeys : {V : Type 0} → List ℕ → List (List ℕ × V) → Type 0
IsBelowKeys name ps = AllByRecursion (λ y. slice_cmp nat_cmp name y ≡ Less) (keys_of ps)

-- a name that is below those of all pairs is not found
pub none_below : {V : Type 0} (name : List ℕ) (ps : List (List ℕ × V)) → IsBelowKeys name ps → value_at name ps ≡ None
none_below name [] h = refl
none_below name (p ∷ ps) h = rw h.0 (none_below name ps h.1)

pub same_below : {V : Type 0} (name first : List ℕ) (ps : List (List ℕ × V)) → slice_cmp nat_cmp name first ≡ Equal → IsBelowKeys first ps → IsBelowKeys name ps
same_below name first [] same h = tt
same_below name first (p ∷ ps) same h = (nat_list_cmp_total.congr name first p.0 same ∙ h.0, same_below name first ps same h.1)

pub below_more : {V : Type 0} (name first : List ℕ) (ps : List (List ℕ × V)) → slice_cmp nat_cmp name first ≡ Less → IsBelowKeys first ps → IsBelowKeys name ps
below_more name first [] less h = tt
below_more name first (p ∷ ps) less h = (nat_list_cmp_total.trans name first p.0 less h.0, below_more name first ps less h.1)

-- the order turned round
pub turned : (a b : List ℕ) → slice_cmp nat_cmp a b ≡ Greater → slice_cmp nat_cmp b a ≡ Less
turned a b e = nat_list_cmp_total.antisymm b a ∙ ap ordering_reverse e

below_with_pair : {V : Type 0} (first k : List ℕ) (v : V) (ps : List (List ℕ × V)) → slice_cmp nat_cmp first k ≡ Less → IsBelowKeys first ps → IsBelowKeys first (with_pair k v ps)
below_with_pair first k v [] less h = (less, tt)
below_with_pair {V} first k v (p ∷ ps) less h = go (slice_cmp nat_cmp k p.0) (below_with_pair first k v ps less h.1)
  where
    go : (o : Ordering) → IsBelowKeys first (with_pair k v ps) → IsBelowKeys first (match_ordering o ((k, v) ∷ p ∷ ps) ((p.0, v) ∷ ps) (p ∷ with_pair k v ps))
    go Less ih = (less, h)
    go Equal ih = h
    go Greater ih = (h.0, ih)

-- the names ascend after one was set
pub Ascends-with_pair : {V : Type 0} (k : List ℕ) (v : V) (ps : List (List ℕ × V)) → Ascends ps → Ascends (with_pair k v ps)
unfolding IsStrictlySortedBy
Ascends-with_pair k v [] sorted = (tt, tt)
Ascends-with_pair {V} k v (p ∷ ps) sorted = go (slice_cmp nat_cmp k p.0) refl (Ascends-with_pair k v ps sorted.1)
  where
    go : (o : Ordering) → slice_cmp nat_cmp k p.0 ≡ o → Ascends (with_pair k v ps) → Ascends (match_ordering o ((k, v) ∷ p ∷ ps) ((p.0, v) ∷ ps) (p ∷ with_pair k v ps))
    go Less is ih = ((is, below_more k p.0 ps is sorted.0), sorted)
    go Equal is ih = sorted
    go Greater is ih = (below_with_pair p.0 k v ps (turned k p.0 is) sorted.0, ih)
