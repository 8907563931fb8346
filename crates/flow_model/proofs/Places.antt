-- The items of a list, by their places.
use Rattle.std.proofs.Common.{◌≡◌, ℕ, zero, suc, ◌+◌, ◌<◌, ◌⊎◌, inl, inr, Bool, true, false, IsTrue, not, ◌||◌, List, [], ◌∷◌, ◌++◌, length, Option, Some, None, slice_get, refl, ap, sym, subst, ◌∙◌, arith}
use Rattle.std.proofs.lemmas.Slice.Eq.{bytes_eq-Decides}
use Rattle.std.specs.List.{list_any}
use Rattle.std.specs.Str.{bytes_eq}
use Rattle.flow_model.proofs.Tests.{both, pair}
use Rattle.flow_model.specs.Rules.{are_distinct, with_id}
use Rattle.flow_model.specs.Sound.{Each, HaveDistinctNames, AscendStrictly}

pub same_Some : {A : Type 0} {x y : A} → Some x ≡ Some y → x ≡ y
same_Some e = cc

-- ---- what holds of each item

pub Each-nil : {T : Type 0} (P : T → Type 0) → Each P []
Each-nil P i x e = absurd (cc)

pub Each-cons : {T : Type 0} (P : T → Type 0) (x : T) (xs : List T) → P x → Each P xs → Each P (x ∷ xs)
Each-cons P x xs h hs zero y e = subst P (same_Some e) h
Each-cons P x xs h hs (suc i) y e = hs i y e

pub Each-head : {T : Type 0} (P : T → Type 0) (x : T) (xs : List T) → Each P (x ∷ xs) → P x
Each-head P x xs hs = hs 0 x refl

pub Each-tail : {T : Type 0} (P : T → Type 0) (x : T) (xs : List T) → Each P (x ∷ xs) → Each P xs
Each-tail P x xs hs i y e = hs (suc i) y e

pub Each-weaker : {T : Type 0} (P Q : T → Type 0) → ((x : T) → P x → Q x) → (xs : List T) → Each P xs → Each Q xs
Each-weaker P Q f xs hs i x e = f x (hs i x e)

-- ---- places

pub slice_get_there : {T : Type 0} (xs : List T) (i : ℕ) → i < length xs → (x : T) × (slice_get xs i ≡ Some x)
slice_get_there [] i h = absurd (omega (arith, h))
slice_get_there (x ∷ xs) zero h = (x, refl)
slice_get_there (x ∷ xs) (suc i) h = slice_get_there xs i (omega (arith, h))

-- an item of two lists stands in the first, or in the second, after the first
pub slice_get-append : {T : Type 0} (xs ys : List T) (n : ℕ) (x : T) → slice_get (xs ++ ys) n ≡ Some x
    → (slice_get xs n ≡ Some x) ⊎ ((m : ℕ) × (n ≡ length xs + m) × (slice_get ys m ≡ Some x))
slice_get-append [] ys n x e = inr (n, omega arith, e)
slice_get-append (y ∷ xs) ys zero x e = inl e
slice_get-append (y ∷ xs) ys (suc n) x e =
    elim (slice_get-append xs ys n x e) [ inl h ↦ inl h | inr h ↦ inr (h.0, omega (arith, h.1), h.2) ]

pub slice_get-append_left : {T : Type 0} (xs ys : List T) (n : ℕ) (x : T) → slice_get xs n ≡ Some x → slice_get (xs ++ ys) n ≡ Some x
slice_get-append_left [] ys n x e = absurd (cc)
slice_get-append_left (y ∷ xs) ys zero x e = e
slice_get-append_left (y ∷ xs) ys (suc n) x e = slice_get-append_left xs ys n x e

pub slice_get-append_right : {T : Type 0} (xs ys : List T) (m : ℕ) → slice_get (xs ++ ys) (length xs + m) ≡ slice_get ys m
slice_get-append_right [] ys m = ap (slice_get ys) (omega arith)
slice_get-append_right (y ∷ xs) ys m =
    let there : length (y ∷ xs) + m ≡ suc (length xs + m) = omega arith in
    ap (slice_get (y ∷ (xs ++ ys))) there ∙ slice_get-append_right xs ys m

-- ---- names

-- the names that some items have
abbrev pub names_by : {T : Type 0} → (T → Option (List ℕ)) → List T → List (List ℕ)
names_by name_of [] = []
names_by name_of (x ∷ xs) = with_id (name_of x) (names_by name_of xs)

-- no item has this name
abbrev pub IsFree : {T : Type 0} → (T → Option (List ℕ)) → List T → List ℕ → Type 0
IsFree {T} name_of xs name = Each (λ x. name_of x ≡ Some name → ⊥) xs

not_true : (b : Bool) → IsTrue (not b) → b ≡ false
not_true true h = absurd (cc)
not_true false h = refl

or_false : (a b : Bool) → (a || b) ≡ false → (a ≡ false) × (b ≡ false)
or_false true b e = absurd (cc)
or_false false b e = (refl, e)

differ : (a b : List ℕ) → bytes_eq a b ≡ false → b ≡ a → ⊥
differ a b e s =
    let t : bytes_eq a b ≡ true = (bytes_eq-Decides a b).1 (sym s) in
    absurd (cc)

different : (a b : List ℕ) → (b ≡ a → ⊥) → (t : Bool) → bytes_eq a b ≡ t → t ≡ false
different a b ne true e = absurd (ne (sym ((bytes_eq-Decides a b).0 e)))
different a b ne false e = refl

name_free : (name : List ℕ) (o : Option (List ℕ)) (names : List (List ℕ)) → list_any (bytes_eq name) (with_id o names) ≡ false
    → (o ≡ Some name → ⊥) × (list_any (bytes_eq name) names ≡ false)
name_free name None names e = (λ s. cc, e)
name_free name (Some other) names e =
    let r = or_false (bytes_eq name other) (list_any (bytes_eq name) names) e in
    (λ s. differ name other r.0 (same_Some s), r.1)

free_name : (name : List ℕ) (o : Option (List ℕ)) (names : List (List ℕ)) → (o ≡ Some name → ⊥) → list_any (bytes_eq name) names ≡ false
    → list_any (bytes_eq name) (with_id o names) ≡ false
free_name name None names ne e = e
free_name name (Some other) names ne e =
    rw (different name other (λ s. ne (ap Some s)) (bytes_eq name other) refl) e

names_free : {T : Type 0} (name_of : T → Option (List ℕ)) (name : List ℕ) (xs : List T) → list_any (bytes_eq name) (names_by name_of xs) ≡ false → IsFree name_of xs name
names_free name_of name [] e = Each-nil _
names_free name_of name (x ∷ xs) e =
    let r = name_free name (name_of x) (names_by name_of xs) e in
    Each-cons (λ y. name_of y ≡ Some name → ⊥) x xs r.0 (names_free name_of name xs r.1)

free_names : {T : Type 0} (name_of : T → Option (List ℕ)) (name : List ℕ) (xs : List T) → IsFree name_of xs name → list_any (bytes_eq name) (names_by name_of xs) ≡ false
free_names name_of name [] h = refl
free_names name_of name (x ∷ xs) h =
    free_name name (name_of x) (names_by name_of xs) (Each-head (λ y. name_of y ≡ Some name → ⊥) x xs h)
    (free_names name_of name xs (Each-tail (λ y. name_of y ≡ Some name → ⊥) x xs h))

distinct_parts : (o : Option (List ℕ)) (names : List (List ℕ)) → IsTrue (are_distinct (with_id o names))
    → ((name : List ℕ) → o ≡ Some name → list_any (bytes_eq name) names ≡ false) × IsTrue (are_distinct names)
distinct_parts None names h = (λ name e. absurd (cc), h)
distinct_parts (Some own) names h =
    let r = both (not (list_any (bytes_eq own) names)) (are_distinct names) h in
    (λ name e. subst (λ n. list_any (bytes_eq n) names ≡ false) (same_Some e) (not_true (list_any (bytes_eq own) names) r.0), r.1)

distinct_whole : (o : Option (List ℕ)) (names : List (List ℕ)) → ((name : List ℕ) → o ≡ Some name → list_any (bytes_eq name) names ≡ false)
    → IsTrue (are_distinct names) → IsTrue (are_distinct (with_id o names))
distinct_whole None names free h = h
distinct_whole (Some own) names free h =
    pair (not (list_any (bytes_eq own) names)) (are_distinct names) (ap not (free own refl)) h

distinct-cons : {T : Type 0} (name_of : T → Option (List ℕ)) (x : T) (xs : List T) → ((name : List ℕ) → name_of x ≡ Some name → IsFree name_of xs name)
    → HaveDistinctNames name_of xs → HaveDistinctNames name_of (x ∷ xs)
distinct-cons name_of x xs free hs zero zero a b name ea eb na nb = refl
distinct-cons name_of x xs free hs zero (suc j) a b name ea eb na nb =
    absurd (free name (ap name_of (same_Some ea) ∙ na) j b eb nb)
distinct-cons name_of x xs free hs (suc i) zero a b name ea eb na nb =
    absurd (free name (ap name_of (same_Some eb) ∙ nb) i a ea na)
distinct-cons name_of x xs free hs (suc i) (suc j) a b name ea eb na nb = ap suc (hs i j a b name ea eb na nb)

same_suc : (i j : ℕ) → suc i ≡ suc j → i ≡ j
same_suc i j e = omega (arith, e)

distinct-head : {T : Type 0} (name_of : T → Option (List ℕ)) (x : T) (xs : List T) → HaveDistinctNames name_of (x ∷ xs)
    → (name : List ℕ) → name_of x ≡ Some name → IsFree name_of xs name
distinct-head name_of x xs hs name nx j b eb nb =
    let same : 0 ≡ suc j = hs 0 (suc j) x b name refl eb nx nb in
    omega (arith, same)

distinct-tail : {T : Type 0} (name_of : T → Option (List ℕ)) (x : T) (xs : List T) → HaveDistinctNames name_of (x ∷ xs) → HaveDistinctNames name_of xs
distinct-tail name_of x xs hs i j a b name ea eb na nb = same_suc i j (hs (suc i) (suc j) a b name ea eb na nb)

pub distinct_names : {T : Type 0} (name_of : T → Option (List ℕ)) (xs : List T) → IsTrue (are_distinct (names_by name_of xs)) → HaveDistinctNames name_of xs
distinct_names name_of [] h = λ i j a b name ea eb na nb. absurd (cc)
distinct_names name_of (x ∷ xs) h =
    let r = distinct_parts (name_of x) (names_by name_of xs) h in
    distinct-cons name_of x xs (λ name e. names_free name_of name xs (r.0 name e)) (distinct_names name_of xs r.1)

pub names_distinct : {T : Type 0} (name_of : T → Option (List ℕ)) (xs : List T) → HaveDistinctNames name_of xs → IsTrue (are_distinct (names_by name_of xs))
names_distinct name_of [] h = refl
names_distinct name_of (x ∷ xs) h =
    distinct_whole (name_of x) (names_by name_of xs)
    (λ name e. free_names name_of name xs (distinct-head name_of x xs h name e))
    (names_distinct name_of xs (distinct-tail name_of x xs h))

-- ---- numbers that ascend

pub ascend-nil : AscendStrictly []
ascend-nil i j m n ei ej h = absurd (cc)

pub ascend-cons : (n : ℕ) (ns : List ℕ) → Each (λ m. n < m) ns → AscendStrictly ns → AscendStrictly (n ∷ ns)
ascend-cons n ns above hs zero zero a b ea eb h = absurd (omega (arith, h))
ascend-cons n ns above hs zero (suc j) a b ea eb h = subst (λ m. m < b) (same_Some ea) (above j b eb)
ascend-cons n ns above hs (suc i) zero a b ea eb h = absurd (omega (arith, h))
ascend-cons n ns above hs (suc i) (suc j) a b ea eb h = hs i j a b ea eb (omega (arith, h))

pub ascend-head : (n : ℕ) (ns : List ℕ) → AscendStrictly (n ∷ ns) → Each (λ m. n < m) ns
ascend-head n ns hs j b eb = hs 0 (suc j) n b refl eb (omega arith)

pub ascend-tail : (n : ℕ) (ns : List ℕ) → AscendStrictly (n ∷ ns) → AscendStrictly ns
ascend-tail n ns hs i j a b ea eb h = hs (suc i) (suc j) a b ea eb (omega (arith, h))
