-- Sums over a list with one item changed, and the first item that passes a test.
use Rattle.std.proofs.Common.{◌≡◌, ℕ, zero, suc, ◌+◌, ◌*◌, ◌≤◌, Bool, true, false, List, [], ◌∷◌, Option, Some, None, length, map, slice_get, sum_by, count_by, cond, option_map, if◌then◌else◌, ap, subst, sym, refl, ◌∙◌, arith}
use Rattle.std.specs.List.{flat_map, list_all, AllZip}
use Rattle.std.proofs.lemmas.List.Sums.{sum_by-cons, sum_by-append}
use Rattle.status_table.specs.Words.{changed, first_place}
use Rattle.board_decisions.proofs.Lists.{and-left, and-right, and-both, same_some, no_some}
use Rattle.status_table.proofs.Lists.{changed-cons, zip-changed}

-- ---- sums

abbrev pub one : Bool → ℕ
one c = cond c 1 0

pub sum-changed : {T : Type 0} (w : T → ℕ) (xs : List T) (i : ℕ) (f : T → T) (x : T) → slice_get xs i ≡ Some x
    → sum_by w (changed xs i f) + w x ≡ sum_by w xs + w (f x)
sum-changed w [] i f x h = absurd (no_some x h)
sum-changed w (y ∷ ys) zero f x h =
    let same = same_some y x h in
    let old = sum_by-cons w y ys in
    let new = sum_by-cons w (f y) ys in
    let here = ap w same in
    let there = ap (λ z. w (f z)) same in
    omega (arith, old, new, here, there)
sum-changed w (y ∷ ys) (suc i) f x h =
    let later = sum-changed w ys i f x h in
    let old = sum_by-cons w y ys in
    let new = ap (sum_by w) (changed-cons y ys i f) ∙ sum_by-cons w y (changed ys i f) in
    omega (arith, later, old, new)

pub sum-kept : {T : Type 0} (w : T → ℕ) (xs : List T) (i : ℕ) (f : T → T) → ((x : T) → w (f x) ≡ w x) → sum_by w (changed xs i f) ≡ sum_by w xs
sum-kept w [] i f h = refl
sum-kept w (x ∷ xs) zero f h =
    let old = sum_by-cons w x xs in let new = sum_by-cons w (f x) xs in let here = h x in omega (arith, old, new, here)
sum-kept w (x ∷ xs) (suc i) f h =
    let old = sum_by-cons w x xs in
    let new = ap (sum_by w) (changed-cons x xs i f) ∙ sum_by-cons w x (changed xs i f) in
    let later = sum-kept w xs i f h in
    omega (arith, old, new, later)

-- a sum over a list made of others keeps where an item is changed to one with the same sum
pub sum-flat : {A B : Type 0} (w : B → ℕ) (g : A → List B) (xs : List A) (i : ℕ) (f : A → A) → ((x : A) → sum_by w (g (f x)) ≡ sum_by w (g x))
    → sum_by w (flat_map g (changed xs i f)) ≡ sum_by w (flat_map g xs)
sum-flat w g [] i f h = refl
sum-flat w g (x ∷ xs) zero f h =
    let new = sum_by-append w (g (f x)) (flat_map g xs) in let old = sum_by-append w (g x) (flat_map g xs) in let here = h x in
    omega (arith, new, old, here)
sum-flat w g (x ∷ xs) (suc i) f h =
    let new = sum_by-append w (g x) (flat_map g (changed xs i f)) in let old = sum_by-append w (g x) (flat_map g xs) in let later = sum-flat w g xs i f h in
    ap (λ zs. sum_by w (flat_map g zs)) (changed-cons x xs i f) ∙ omega (arith, new, old, later)

pub sum-flat-changed : {A B : Type 0} (w : B → ℕ) (g : A → List B) (xs : List A) (i : ℕ) (f : A → A) (x : A) → slice_get xs i ≡ Some x
    → sum_by w (flat_map g (changed xs i f)) + sum_by w (g x) ≡ sum_by w (flat_map g xs) + sum_by w (g (f x))
sum-flat-changed w g [] i f x h = absurd (no_some x h)
sum-flat-changed w g (y ∷ ys) zero f x h =
    let same = same_some y x h in
    let new = sum_by-append w (g (f y)) (flat_map g ys) in
    let old = sum_by-append w (g y) (flat_map g ys) in
    let here = ap (λ z. sum_by w (g z)) same in
    let there = ap (λ z. sum_by w (g (f z))) same in
    omega (arith, new, old, here, there)
sum-flat-changed w g (y ∷ ys) (suc i) f x h =
    let new = ap (λ zs. sum_by w (flat_map g zs)) (changed-cons y ys i f) ∙ sum_by-append w (g y) (flat_map g (changed ys i f)) in
    let old = sum_by-append w (g y) (flat_map g ys) in
    let later = sum-flat-changed w g ys i f x h in
    omega (arith, new, old, later)

pub sum-map : {A B : Type 0} (w : B → ℕ) (f : A → B) (n : ℕ) (xs : List A) → ((x : A) → w (f x) ≡ n) → sum_by w (map f xs) ≡ n * length xs
sum-map w f n [] h = omega arith
sum-map w f n (x ∷ xs) h =
    let cons = sum_by-cons w (f x) (map f xs) in let later = sum-map w f n xs h in let here = h x in grind (arith, cons, later, here)

pub counted : {A : Type 0} (t : A → Bool) (xs : List A) (i : ℕ) (x : A) → slice_get xs i ≡ Some x → t x ≡ true → 1 ≤ count_by t xs
counted t [] i x at h = absurd (no_some x at)
counted t (y ∷ ys) zero x at h =
    let cons = sum_by-cons (λ z. one (t z)) y ys in
    let here : one (t y) ≡ 1 = ap (λ z. one (t z)) (same_some y x at) ∙ ap one h in
    omega (arith, cons, here)
counted t (y ∷ ys) (suc i) x at h =
    let cons = sum_by-cons (λ z. one (t z)) y ys in let later = counted t ys i x at h in omega (arith, cons, later)

-- ---- the first that passes a test

First : {A : Type 0} → ℕ → (A → Bool) → List A → Option ℕ → Type 0
First {A} k t xs None = count_by t xs ≡ 0
First {A} k t xs (Some i) = (j : ℕ) × (x : A) × (i ≡ k + j) × (slice_get xs j ≡ Some x) × (t x ≡ true)

first : {A : Type 0} (k : ℕ) (t : A → Bool) (xs : List A) → First k t xs (first_place k t xs)
unfolding First
first k t [] = refl
first {A} k t (x ∷ xs) = step (t x) refl (first_place (suc k) t xs) (first (suc k) t xs)
  where
    step : (c : Bool) → t x ≡ c → (o : Option ℕ) → First (suc k) t xs o → First k t (x ∷ xs) (if c then Some k else o)
    step true is o h = (0, x, omega arith, refl, is)
    step false is None h =
        let cons = sum_by-cons (λ z. one (t z)) x xs in let here = ap one is in let none : count_by t xs ≡ 0 = h in omega (arith, cons, here, none)
    step false is (Some i) h = (suc h.0, h.1, omega (arith, h.2), h.3, h.4)

pub first-none : {A : Type 0} (t : A → Bool) (xs : List A) → first_place 0 t xs ≡ None → count_by t xs ≡ 0
unfolding First
first-none t xs h = subst (First 0 t xs) h (first 0 t xs)

pub first-some : {A : Type 0} (t : A → Bool) (xs : List A) (i : ℕ) → first_place 0 t xs ≡ Some i → (x : A) × (slice_get xs i ≡ Some x) × (t x ≡ true)
unfolding First
first-some t xs i h =
    let f = subst (First 0 t xs) h (first 0 t xs) in
    let e : i ≡ f.0 = omega (arith, f.2) in
    (f.1, ap (slice_get xs) e ∙ f.3, f.4)

pub only_first : {A : Type 0} (k : ℕ) (t : A → Bool) (xs : List A) (i : ℕ) (x : A) → count_by t xs ≤ 1 → slice_get xs i ≡ Some x → t x ≡ true
    → first_place k t xs ≡ Some (k + i)
only_first k t [] i x few at h = absurd (no_some x at)
only_first {A} k t (y ∷ ys) zero x few at h =
    let e : t y ≡ true = subst (λ (z : A). t z ≡ true) (sym (same_some y x at)) h in
    let z : k ≡ k + 0 = omega arith in
    rw e (ap (λ n. Some n) z)
only_first {A} k t (y ∷ ys) (suc i) x few at h = step (t y) refl (λ few'. only_first (suc k) t ys i x few' at h)
  where
    cons : count_by t (y ∷ ys) ≡ one (t y) + count_by t ys
    cons = sum_by-cons (λ z. one (t z)) y ys

    step : (c : Bool) → t y ≡ c → (count_by t ys ≤ 1 → first_place (suc k) t ys ≡ Some (suc k + i)) → (if c then Some k else first_place (suc k) t ys) ≡ Some (k + suc i)
    step true is later = let more = counted t ys i x at h in let here = ap one is in absurd (omega (arith, few, cons, here, more))
    step false is later =
        let here = ap one is in
        let z : suc k + i ≡ k + suc i = omega arith in
        later (omega (arith, few, cons, here)) ∙ ap (λ n. Some n) z

-- ---- look-ups of a list with an item changed

pub map-get-kept : {A B : Type 0} (g : A → B) (xs : List A) (i : ℕ) (f : A → A) (k : ℕ) → ((x : A) → g (f x) ≡ g x)
    → option_map g (slice_get (changed xs i f) k) ≡ option_map g (slice_get xs k)
map-get-kept g [] i f k h = refl
map-get-kept g (x ∷ xs) zero f zero h = ap (λ y. Some y) (h x)
map-get-kept g (x ∷ xs) zero f (suc k) h = refl
map-get-kept g (x ∷ xs) (suc i) f zero h = ap (λ zs. option_map g (slice_get zs 0)) (changed-cons x xs i f)
map-get-kept g (x ∷ xs) (suc i) f (suc k) h = ap (λ zs. option_map g (slice_get zs (suc k))) (changed-cons x xs i f) ∙ map-get-kept g xs i f k h

pub map-some : {A B : Type 0} (g : A → B) (o : Option A) (y : B) → option_map g o ≡ Some y → (x : A) × (o ≡ Some x) × (g x ≡ y)
map-some g None y h = absurd (no_some y h)
map-some g (Some x) y h = (x, refl, same_some (g x) y h)

-- ---- two lists side by side

pub zip-changed-at : {A B : Type 0} (R : A → B → Type 0) (ps : List A) (xs : List B) (i : ℕ) (f : B → B) (q : A) (x : B) → slice_get ps i ≡ Some q → slice_get xs i ≡ Some x
    → (R q x → R q (f x)) → AllZip R ps xs → AllZip R ps (changed xs i f)
zip-changed-at {A} {B} R ps xs i f q x planned at step = zip-changed R ps xs i f (λ p y p_at y_at h.
    let p_is = same_some p q (sym p_at ∙ planned) in
    let y_is = same_some y x (sym y_at ∙ at) in
    subst (λ (z : A). R z (f y)) (sym p_is) (subst (λ (z : B). R q (f z)) (sym y_is) (step (subst (λ (z : B). R q z) y_is (subst (λ (z : A). R z y) p_is h)))))

-- a list beside itself with an item changed
pub zip-beside : {A : Type 0} (R : A → A → Type 0) (xs : List A) → ((x : A) → R x x) → AllZip R xs xs
zip-beside R [] h = tt
zip-beside R (x ∷ xs) h = (h x, zip-beside R xs h)

pub zip-changed-self : {A : Type 0} (R : A → A → Type 0) (xs : List A) (i : ℕ) (f : A → A) (x : A) → slice_get xs i ≡ Some x → ((y : A) → R y y) → R x (f x)
    → AllZip R xs (changed xs i f)
zip-changed-self R xs i f x at same step = zip-changed-at R xs xs i f x x at at (λ _. step) (zip-beside R xs same)

pub zip-then : {A B C : Type 0} (R : A → B → Type 0) (S : B → C → Type 0) (T : A → C → Type 0) → ((x : A) (y : B) (z : C) → R x y → S y z → T x z)
    → (xs : List A) (ys : List B) (zs : List C) → AllZip R xs ys → AllZip S ys zs → AllZip T xs zs
zip-then R S T f [] [] [] h k = tt
zip-then R S T f [] [] (z ∷ zs) h k = absurd k
zip-then R S T f [] (y ∷ ys) zs h k = absurd h
zip-then R S T f (x ∷ xs) [] zs h k = absurd h
zip-then R S T f (x ∷ xs) (y ∷ ys) [] h k = absurd k
zip-then R S T f (x ∷ xs) (y ∷ ys) (z ∷ zs) h k = (f x y z h.0 k.0, zip-then R S T f xs ys zs h.1 k.1)

pub zip-weaker : {A B : Type 0} (R S : A → B → Type 0) → ((q : A) (x : B) → R q x → S q x) → (ps : List A) (xs : List B) → AllZip R ps xs → AllZip S ps xs
zip-weaker R S f [] [] h = tt
zip-weaker R S f [] (y ∷ ys) h = absurd h
zip-weaker R S f (q ∷ ps) [] h = absurd h
zip-weaker R S f (q ∷ ps) (y ∷ ys) h = (f q y h.0, zip-weaker R S f ps ys h.1)

-- of the second of two lists side by side: what stands beside an item
pub zip-left : {A B : Type 0} (R : A → B → Type 0) (ps : List A) (xs : List B) (i : ℕ) (x : B) → slice_get xs i ≡ Some x → AllZip R ps xs
    → (q : A) × (slice_get ps i ≡ Some q) × R q x
zip-left R [] [] i x at h = absurd (no_some x at)
zip-left R [] (y ∷ ys) i x at h = absurd h
zip-left R (q ∷ ps) [] i x at h = absurd h
zip-left {A} {B} R (q ∷ ps) (y ∷ ys) zero x at h = (q, refl, subst (λ (z : B). R q z) (same_some y x at) h.0)
zip-left R (q ∷ ps) (y ∷ ys) (suc i) x at h = zip-left R ps ys i x at h.1

pub all-weaker : {A : Type 0} (s t : A → Bool) → ((x : A) → s x ≡ true → t x ≡ true) → (xs : List A) → list_all s xs ≡ true → list_all t xs ≡ true
all-weaker s t f [] h = refl
all-weaker s t f (y ∷ ys) h = and-both (t y) (list_all t ys) (f y (and-left (s y) (list_all s ys) h)) (all-weaker s t f ys (and-right (s y) (list_all s ys) h))
