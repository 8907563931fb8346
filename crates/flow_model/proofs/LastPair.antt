-- Setting the pair of a key that is above all others.
use Rattle.std.proofs.Common.{◌≡◌, ℕ, List, [], ◌∷◌, ◌++◌, map, refl, ap, sym, subst, ◌∙◌, nat_cmp, append_assoc}
use Rattle.std.specs.Cmp.Lexicographic.{slice_cmp}
use Rattle.std.specs.List.Sorted.{IsStrictlySortedBy}
use Rattle.flow_model.specs.Mapping.{with_pair, keys_of}
use Rattle.flow_model.proofs.Pairs.{with_pair-last}

keys_of-append : {V : Type 0} (ps qs : List (List ℕ × V)) → keys_of (ps ++ qs) ≡ keys_of ps ++ keys_of qs
keys_of-append [] qs = refl
keys_of-append (p ∷ ps) qs = ap (λ (ks : List (List ℕ)). p.0 ∷ ks) (keys_of-append ps qs)

keys_of-each : {V : Type 0} (v : V) (ks : List (List ℕ)) → keys_of (map (λ k. (k, v)) ks) ≡ ks
keys_of-each v [] = refl
keys_of-each v (k ∷ ks) = ap (λ (rest : List (List ℕ)). k ∷ rest) (keys_of-each v ks)

-- where the keys, this one next and some that are left ascend, this key's pair goes last
pub with_pair-above : {V : Type 0} (ps : List (List ℕ × V)) (k : List ℕ) (v : V) (left all : List (List ℕ)) → keys_of ps ++ k ∷ left ≡ all
    → IsStrictlySortedBy (slice_cmp nat_cmp) all → with_pair k v ps ≡ ps ++ (k, v) ∷ []
with_pair-above {V} ps k v left all e h =
    let more : List (List ℕ × V) = map (λ l. (l, v)) left in
    let whole : keys_of (ps ++ (k, v) ∷ more) ≡ all =
    keys_of-append ps ((k, v) ∷ more) ∙ ap (λ (ks : List (List ℕ)). keys_of ps ++ k ∷ ks) (keys_of-each v left) ∙ e in
    with_pair-last ps k v more (subst (λ (ks : List (List ℕ)). IsStrictlySortedBy (slice_cmp nat_cmp) ks) (sym whole) h)

-- after that the keys that were set and those that are left are all
pub keys_of-next : {V : Type 0} (ps : List (List ℕ × V)) (k : List ℕ) (v : V) (left all : List (List ℕ)) → keys_of ps ++ k ∷ left ≡ all
    → IsStrictlySortedBy (slice_cmp nat_cmp) all → keys_of (with_pair k v ps) ++ left ≡ all
keys_of-next {V} ps k v left all e h =
    rw (with_pair-above ps k v left all e h, keys_of-append ps ((k, v) ∷ []), append_assoc (keys_of ps) (k ∷ []) left) e
