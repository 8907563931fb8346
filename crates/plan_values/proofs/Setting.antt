-- What is found where a pair was set, and where levels are laid over one another.
use Rattle.std.proofs.Common.{◌≡◌, ℕ, Bool, true, false, cond, Option, Some, None, List, [], ◌∷◌, Ordering, Less, Equal, Greater, refl, sym, ap, subst, ◌∙◌}
use Rattle.std.specs.Cmp.Lexicographic.{slice_cmp}
use Rattle.std.specs.List.{AllByRecursion}
use Rattle.std.specs.List.Sorted.{IsStrictlySortedBy}
use Rattle.std.specs.Ordering.{nat_cmp, is_eq, match_ordering}
use Rattle.flow_model.specs.Mapping.{value_at, with_pair, keys_of, Ascends}
use Rattle.plan_values.specs.Env.{laid_over, or_below}
use Rattle.plan_values.proofs.Names.{name_is}

-- A choice made twice by one test.
pub chosen_twice : {A : Type 0} (b : Bool) (x y z : A) → cond b x z ≡ cond b x (cond b y z)
chosen_twice true x y z = refl
chosen_twice false x y z = refl

-- Two choices of which one is made at most.
pub choices_turned : {A : Type 0} (a b : Bool) (x y z : A) → (a ≡ true → b ≡ true → ⊥) → cond a x (cond b y z) ≡ cond b y (cond a x z)
choices_turned true true x y z apart = absurd (apart refl refl)
choices_turned true false x y z apart = refl
choices_turned false b x y z apart = refl

not_greater : (o : Ordering) → o ≡ Greater → is_eq o ≡ true → ⊥
not_greater o h e = cc (ap is_eq h)

set_by : {V : Type 0} (key k : List ℕ) (v : V) (p : List ℕ × V) (ps : List (List ℕ × V)) (o : Ordering) → slice_cmp nat_cmp k p.0 ≡ o
    → value_at key (with_pair k v ps) ≡ cond (is_eq (slice_cmp nat_cmp key k)) (Some v) (value_at key ps)
    → value_at key (match_ordering o ((k, v) ∷ p ∷ ps) ((p.0, v) ∷ ps) (p ∷ with_pair k v ps)) ≡ cond (is_eq (slice_cmp nat_cmp key k)) (Some v) (value_at key (p ∷ ps))
set_by key k v p ps Less at found = refl
set_by {V} key k v p ps Equal at found =
    let same : k ≡ p.0 = name_is k p.0 (ap is_eq at) in
    let b : Bool = is_eq (slice_cmp nat_cmp key p.0) in
    chosen_twice b (Some v) (Some p.1) (value_at key ps)
    ∙ ap (λ (t : Bool). cond t (Some v) (cond b (Some p.1) (value_at key ps))) (ap (λ (n : List ℕ). is_eq (slice_cmp nat_cmp key n)) (sym same))
set_by {V} key k v p ps Greater at found =
    ap (λ (z : Option V). cond (is_eq (slice_cmp nat_cmp key p.0)) (Some p.1) z) found
    ∙ choices_turned (is_eq (slice_cmp nat_cmp key p.0)) (is_eq (slice_cmp nat_cmp key k)) (Some p.1) (Some v) (value_at key ps)
    (λ a b. not_greater (slice_cmp nat_cmp k p.0) at (subst (λ (n : List ℕ). is_eq (slice_cmp nat_cmp n p.0) ≡ true) (name_is key k b) a))

-- What is set at a key is found there, and nothing else changes.
pub set_found : {V : Type 0} (key k : List ℕ) (v : V) (ps : List (List ℕ × V)) → value_at key (with_pair k v ps) ≡ cond (is_eq (slice_cmp nat_cmp key k)) (Some v) (value_at key ps)
set_found key k v [] = refl
set_found key k v (p ∷ ps) = set_by key k v p ps (slice_cmp nat_cmp k p.0) refl (set_found key k v ps)

-- A key below all others is none of them.
none_below : {V : Type 0} (key : List ℕ) (ps : List (List ℕ × V)) → AllByRecursion (λ y. slice_cmp nat_cmp key y ≡ Less) (keys_of ps) → value_at key ps ≡ None
none_below key [] h = refl
none_below {V} key (p ∷ ps) h = ap (λ (o : Ordering). cond (is_eq o) (Some p.1) (value_at key ps)) h.0 ∙ none_below key ps h.1

laid_by : {V : Type 0} (name : List ℕ) (p : List ℕ × V) (above below : Option V) (b : Bool) → (b ≡ true → above ≡ None) → or_below above (cond b (Some p.1) below) ≡ or_below (cond b (Some p.1) above) below
laid_by {V} name p above below true none = ap (λ (o : Option V). or_below o (Some p.1)) (none refl)
laid_by name p above below false none = refl

-- The upper level's value is found where it has the name, else the lower one's.
pub laid_found : {V : Type 0} (name : List ℕ) (above below : List (List ℕ × V)) → Ascends above → value_at name (laid_over above below) ≡ or_below (value_at name above) (value_at name below)
unfolding laid_over IsStrictlySortedBy
laid_found name [] below h = refl
laid_found {V} name (p ∷ ps) below h =
    laid_found name ps (with_pair p.0 p.1 below) h.1
    ∙ ap (or_below (value_at name ps)) (set_found name p.0 p.1 below)
    ∙ laid_by name p (value_at name ps) (value_at name below) (is_eq (slice_cmp nat_cmp name p.0))
    (λ same. subst (λ (n : List ℕ). value_at n ps ≡ None) (sym (name_is name p.0 same)) (none_below p.0 ps h.0))
