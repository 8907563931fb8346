-- What stands in pairs that are laid over one another.
use Rattle.std.proofs.Common.{◌≡◌, ◌↔◌, ℕ, zero, suc, Bool, true, false, cond, if◌then◌else◌, Option, Some, None, List, [], ◌∷◌, map, refl, sym, ap, subst, ◌∙◌}
use Rattle.std.proofs.lemmas.Bool.{true≢false}
use Rattle.std.proofs.lemmas.Map.Text.{is_eq-slice_cmp}
use Rattle.std.proofs.lemmas.Slice.Eq.{bytes_eq-Decides}
use Rattle.board_settled.specs.Words.{Ascends, Env, cons_option, filter_map, is_eq, laid_over, nat_cmp, or_below, overlaid, slice_cmp, slice_get, value_at, with_pair}
use Rattle.std.specs.List.Sorted.{IsStrictlySortedBy}
use Rattle.flow_model.proofs.Lookups.{found_other, found_same, none_below as none_under}
use Rattle.flow_model.proofs.Places.{same_Some}

-- an item stands somewhere in a list
abbrev pub IsIn : {T : Type 0} → T → List T → Type 0
IsIn x xs = (i : ℕ) × (slice_get xs i ≡ Some x)

-- what the last pair with a name has there
abbrev pub last_at : {V : Type 0} → List ℕ → List (List ℕ × V) → Option V
last_at name [] = None
last_at name (p ∷ ps) = or_below (last_at name ps) (if is_eq (slice_cmp nat_cmp name p.0) then Some p.1 else None)

-- ---- names

-- names that compare equal are one
pub name_is : (a b : List ℕ) → is_eq (slice_cmp nat_cmp a b) ≡ true → a ≡ b
name_is a b h = (bytes_eq-Decides a b).0 (sym (is_eq-slice_cmp a b) ∙ h)

name_same : (name : List ℕ) → is_eq (slice_cmp nat_cmp name name) ≡ true
name_same name = is_eq-slice_cmp name name ∙ (bytes_eq-Decides name name).1 refl

-- what is set at a key is found there, and nothing else changes
set_found : {V : Type 0} (key k : List ℕ) (v : V) (ps : List (List ℕ × V)) → value_at key (with_pair k v ps) ≡ cond (is_eq (slice_cmp nat_cmp key k)) (Some v) (value_at key ps)
set_found {V} key k v ps = by (is_eq (slice_cmp nat_cmp key k)) refl
  where
    by : (b : Bool) → is_eq (slice_cmp nat_cmp key k) ≡ b → value_at key (with_pair k v ps) ≡ cond b (Some v) (value_at key ps)
    by true h = subst (λ (n : List ℕ). value_at n (with_pair k v ps) ≡ Some v) (sym (name_is key k h)) (found_same k v ps)
    by false h = found_other key k v ps (λ same. true≢false (sym (name_same k) ∙ ap (λ (n : List ℕ). is_eq (slice_cmp nat_cmp n k)) (sym same) ∙ h))

-- ---- pairs

below_twice : {V : Type 0} (above below : Option V) (v : V) (b : Bool) → or_below above (cond b (Some v) below) ≡ or_below (or_below above (cond b (Some v) None)) below
below_twice None below v true = refl
below_twice above below v b = refl

-- the last pair with a name is found, else what was below
last_found : {V : Type 0} (name : List ℕ) (ps below : List (List ℕ × V)) → value_at name (laid_over ps below) ≡ or_below (last_at name ps) (value_at name below)
unfolding laid_over
last_found name [] below = refl
last_found name (p ∷ ps) below =
    last_found name ps (with_pair p.0 p.1 below) ∙ ap (or_below (last_at name ps)) (set_found name p.0 p.1 below)
    ∙ below_twice (last_at name ps) (value_at name below) p.1 (is_eq (slice_cmp nat_cmp name p.0))

pub none_below : {V : Type 0} (o : Option V) → or_below o None ≡ o
none_below None = refl
none_below (Some v) = refl

pub below_through : {V : Type 0} (x y z : Option V) → or_below x (or_below y z) ≡ or_below (or_below x y) z
below_through None y z = refl
below_through (Some v) y z = refl

-- laid over nothing, the last pair with a name is what is found
laid_alone : {V : Type 0} (name : List ℕ) (ps : List (List ℕ × V)) → value_at name (laid_over ps []) ≡ last_at name ps
laid_alone name ps = last_found name ps [] ∙ none_below (last_at name ps)

-- where names ascend the last pair with a name is the first
ascending_last : {V : Type 0} (name : List ℕ) (ps : List (List ℕ × V)) → Ascends ps → last_at name ps ≡ value_at name ps
unfolding IsStrictlySortedBy
ascending_last name [] h = refl
ascending_last {V} name (p ∷ ps) h = by (is_eq (slice_cmp nat_cmp name p.0)) refl (ascending_last name ps h.1)
  where
    by : (b : Bool) → is_eq (slice_cmp nat_cmp name p.0) ≡ b → last_at name ps ≡ value_at name ps → or_below (last_at name ps) (cond b (Some p.1) None) ≡ cond b (Some p.1) (value_at name ps)
    by true same others = ap (λ (o : Option V). or_below o (Some p.1)) (others ∙ ap (λ (n : List ℕ). value_at n ps) (name_is name p.0 same) ∙ none_under p.0 ps h.0)
    by false same others = none_below (last_at name ps) ∙ others

-- one level over another: the higher that has a name gives it
pub one_found : {V : Type 0} (level below : List (List ℕ × V)) (name : List ℕ) → Ascends level
    → value_at name (laid_over level below) ≡ or_below (value_at name level) (value_at name below)
one_found {V} level below name h = last_found name level below ∙ ap (λ (o : Option V). or_below o (value_at name below)) (ascending_last name level h)

first_in : {V : Type 0} (name : List ℕ) (p : List ℕ × V) (ps : List (List ℕ × V)) (v : V) (b : Bool) → is_eq (slice_cmp nat_cmp name p.0) ≡ b
    → cond b (Some p.1) None ≡ Some v → IsIn (name, v) (p ∷ ps)
first_in {V} name p ps v true same is =
    (zero, ap (λ (n : List ℕ). Some (n, p.1)) (sym (name_is name p.0 same)) ∙ ap (λ (w : V). Some (name, w)) (same_Some is))
first_in name p ps v false same is = absurd (cc)

-- what is found stands there
found_in : {V : Type 0} (name : List ℕ) (ps : List (List ℕ × V)) (v : V) → last_at name ps ≡ Some v → IsIn (name, v) ps
found_in name [] v is = absurd (cc)
found_in {V} name (p ∷ ps) v is = by (last_at name ps) refl (found_in name ps v) is
  where
    by : (o : Option V) → last_at name ps ≡ o → (last_at name ps ≡ Some v → IsIn (name, v) ps) → or_below o (cond (is_eq (slice_cmp nat_cmp name p.0)) (Some p.1) None) ≡ Some v → IsIn (name, v) (p ∷ ps)
    by (Some w) at inner h = let (i, there) = inner (at ∙ h) in (suc i, there)
    by None at inner h = first_in name p ps v (is_eq (slice_cmp nat_cmp name p.0)) refl h

-- where a pair stands, the name is found
in_found : {V : Type 0} (name : List ℕ) (v : V) (ps : List (List ℕ × V)) (i : ℕ) → slice_get ps i ≡ Some (name, v) → (w : V) × (last_at name ps ≡ Some w)
in_found name v [] i there = absurd (cc)
in_found {V} name v (p ∷ ps) zero there =
    let is : p ≡ (name, v) = same_Some there in by (last_at name ps) (ap (λ (q : List ℕ × V). is_eq (slice_cmp nat_cmp name q.0)) is ∙ name_same name)
  where
    by : (o : Option V) → is_eq (slice_cmp nat_cmp name p.0) ≡ true → (w : V) × (or_below o (cond (is_eq (slice_cmp nat_cmp name p.0)) (Some p.1) None) ≡ Some w)
    by (Some w) same = (w, refl)
    by None same = (p.1, ap (λ (b : Bool). cond b (Some p.1) None) same)
in_found {V} name v (p ∷ ps) (suc i) there =
    let (w, at) = in_found name v ps i there in (w, ap (λ (o : Option V). or_below o (cond (is_eq (slice_cmp nat_cmp name p.0)) (Some p.1) None)) at)

-- laid over nothing, just those pairs are found of which each is one that may stand there, and each such one stands, if a name has one value
pub laid_exactly : {V : Type 0} (ps : List (List ℕ × V)) (P : List ℕ → V → Type 0) → ((i : ℕ) (name : List ℕ) (v : V) → slice_get ps i ≡ Some (name, v) → P name v)
    → ((name : List ℕ) (v : V) → P name v → IsIn (name, v) ps) → ((name : List ℕ) (v w : V) → P name v → P name w → v ≡ w)
    → (name : List ℕ) (v : V) → (value_at name (laid_over ps []) ≡ Some v) ↔ P name v
laid_exactly {V} ps P each stands once name v = (found v, given)
  where
    found : (w : V) → value_at name (laid_over ps []) ≡ Some w → P name w
    found w is = let (i, there) = found_in name ps w (sym (laid_alone name ps) ∙ is) in each i name w there

    given : P name v → value_at name (laid_over ps []) ≡ Some v
    given p =
        let (i, there) = stands name v p in
        let (w, last) = in_found name v ps i there in
        let is = laid_alone name ps ∙ last in
        is ∙ ap Some (once name w v (found w is) p)

-- levels without a name lay nothing over what is below
pub nothing-laid : {T : Type 0} (f : T → Env) (xs : List T) (below : Env) → ((i : ℕ) (x : T) → slice_get xs i ≡ Some x → f x ≡ []) → overlaid (map f xs) below ≡ below
unfolding laid_over
nothing-laid f [] below none = refl
nothing-laid f (x ∷ xs) below none =
    ap (λ (level : Env). overlaid (map f xs) (laid_over level below)) (none 0 x refl) ∙ nothing-laid f xs below (λ i y there. none (suc i) y there)

-- ---- items that some have

-- what some item has stands there
pub kept_in : {X Y : Type 0} (f : X → Option Y) (xs : List X) (k : ℕ) (x : X) (y : Y) → slice_get xs k ≡ Some x → f x ≡ Some y → IsIn y (filter_map f xs)
kept_in f [] k x y there has = absurd (cc)
kept_in {X} {Y} f (z ∷ xs) zero x y there has =
    (zero, ap (λ (o : Option Y). slice_get (cons_option o (filter_map f xs)) zero) (ap f (same_Some there) ∙ has))
kept_in {X} {Y} f (z ∷ xs) (suc k) x y there has = by (f z) (kept_in f xs k x y there has)
  where
    by : (o : Option Y) → IsIn y (filter_map f xs) → IsIn y (cons_option o (filter_map f xs))
    by None h = h
    by (Some w) (i, h) = (suc i, h)

-- what stands there some item has
pub in_kept : {X Y : Type 0} (f : X → Option Y) (xs : List X) (i : ℕ) (y : Y) → slice_get (filter_map f xs) i ≡ Some y → (k : ℕ) × (x : X) × (slice_get xs k ≡ Some x) × (f x ≡ Some y)
in_kept f [] i y there = absurd (cc)
in_kept {X} {Y} f (z ∷ xs) i y there = by (f z) refl (λ n h. in_kept f xs n y h) i there
  where
    by : (o : Option Y) → f z ≡ o → ((n : ℕ) → slice_get (filter_map f xs) n ≡ Some y → (k : ℕ) × (x : X) × (slice_get xs k ≡ Some x) × (f x ≡ Some y)) → (i : ℕ) → slice_get (cons_option o (filter_map f xs)) i ≡ Some y → (k : ℕ) × (x : X) × (slice_get (z ∷ xs) k ≡ Some x) × (f x ≡ Some y)
    by None is inner i h = let (k, x, at, has) = inner i h in (suc k, x, at, has)
    by (Some w) is inner zero h = (zero, z, refl, is ∙ h)
    by (Some w) is inner (suc i) h = let (k, x, at, has) = inner i h in (suc k, x, at, has)
