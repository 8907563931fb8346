-- A list with one item changed, and lists made of others.
use Rattle.std.proofs.Common.{◌≡◌, ◌≢◌, ℕ, zero, suc, ◌-◌, ◌<◌, ◌≤◌, Bool, true, List, [], ◌∷◌, ◌++◌, Option, Some, None, length, slice_get, map, ap, subst, sym, refl, ◌∙◌, arith}
use Rattle.std.specs.List.{flat_map, list_all, AllZip}
use Rattle.std.proofs.lemmas.List.{map-append}
use Rattle.std.proofs.lemmas.List.Concat.{flat_map-append}
use Rattle.status_table.specs.Words.{changed, put, ◌>>=◌}
use Rattle.board_decisions.proofs.Lists.{and-left, and-right, and-both, same_some, no_some}

-- ---- an item changed

put-cons : {T : Type 0} (x : T) (xs : List T) (i : ℕ) (f : T → T) (o : Option T) → put (x ∷ xs) (suc i) f o ≡ x ∷ put xs i f o
put-cons x xs i f None = refl
put-cons x xs i f (Some y) = refl

pub changed-cons : {T : Type 0} (x : T) (xs : List T) (i : ℕ) (f : T → T) → changed (x ∷ xs) (suc i) f ≡ x ∷ changed xs i f
changed-cons x xs i f = put-cons x xs i f (slice_get xs i)

pub changed-there : {T : Type 0} (xs : List T) (i : ℕ) (f : T → T) (x : T) → slice_get xs i ≡ Some x → slice_get (changed xs i f) i ≡ Some (f x)
changed-there [] i f x h = cc
changed-there {T} (y ∷ ys) zero f x h = ap (λ (o : Option T). at f o) h
  where
    at : (T → T) → Option T → Option T
    at f None = None
    at f (Some z) = Some (f z)
changed-there (y ∷ ys) (suc i) f x h = ap (λ zs. slice_get zs (suc i)) (changed-cons y ys i f) ∙ changed-there ys i f x h

pub changed-elsewhere : {T : Type 0} (xs : List T) (i : ℕ) (f : T → T) (k : ℕ) → k ≢ i → slice_get (changed xs i f) k ≡ slice_get xs k
changed-elsewhere [] i f k h = refl
changed-elsewhere (y ∷ ys) zero f zero h = absurd (h refl)
changed-elsewhere (y ∷ ys) zero f (suc k) h = refl
changed-elsewhere (y ∷ ys) (suc i) f zero h = ap (λ zs. slice_get zs 0) (changed-cons y ys i f)
changed-elsewhere (y ∷ ys) (suc i) f (suc k) h = ap (λ zs. slice_get zs (suc k)) (changed-cons y ys i f) ∙ changed-elsewhere ys i f k (λ e. h (ap suc e))

pub changed-left : {T : Type 0} (xs ys : List T) (n : ℕ) (f : T → T) → n < length xs → changed (xs ++ ys) n f ≡ changed xs n f ++ ys
changed-left [] ys n f h = absurd (omega (arith, h))
changed-left (x ∷ xs) ys zero f h = refl
changed-left (x ∷ xs) ys (suc n) f h =
    changed-cons x (xs ++ ys) n f ∙ ap (λ zs. x ∷ zs) (changed-left xs ys n f (omega (arith, h))) ∙ ap (λ zs. zs ++ ys) (sym (changed-cons x xs n f))

pub changed-right : {T : Type 0} (xs ys : List T) (n : ℕ) (f : T → T) → length xs ≤ n → changed (xs ++ ys) n f ≡ xs ++ changed ys (n - length xs) f
changed-right [] ys n f h = let e : n - 0 ≡ n = omega arith in rw e refl
changed-right (x ∷ xs) ys zero f h = absurd (omega (arith, h))
changed-right (x ∷ xs) ys (suc n) f h =
    let e : suc n - suc (length xs) ≡ n - length xs = omega arith in
    rw e (changed-cons x (xs ++ ys) n f ∙ ap (λ zs. x ∷ zs) (changed-right xs ys n f (omega (arith, h))))

pub length-changed : {T : Type 0} (xs : List T) (i : ℕ) (f : T → T) → length (changed xs i f) ≡ length xs
length-changed [] i f = refl
length-changed (x ∷ xs) zero f = refl
length-changed (x ∷ xs) (suc i) f = ap length (changed-cons x xs i f) ∙ ap suc (length-changed xs i f)

pub changed-past : {T : Type 0} (xs : List T) (i : ℕ) (f : T → T) → length xs ≤ i → changed xs i f ≡ xs
changed-past [] i f h = refl
changed-past (x ∷ xs) zero f h = absurd (omega (arith, h))
changed-past (x ∷ xs) (suc i) f h = changed-cons x xs i f ∙ ap (λ zs. x ∷ zs) (changed-past xs i f (omega (arith, h)))

-- what is made of an item stays where the change keeps it
pub changed-same : {T A : Type 0} (w : Option T → A) (xs : List T) (i : ℕ) (f : T → T) → ((x : T) → slice_get xs i ≡ Some x → w (Some (f x)) ≡ w (Some x))
    → (k : ℕ) → w (slice_get (changed xs i f) k) ≡ w (slice_get xs k)
changed-same w [] i f step k = refl
changed-same w (y ∷ ys) zero f step zero = step y refl
changed-same w (y ∷ ys) zero f step (suc k) = refl
changed-same w (y ∷ ys) (suc i) f step zero = ap (λ zs. w (slice_get zs 0)) (changed-cons y ys i f)
changed-same w (y ∷ ys) (suc i) f step (suc k) = ap (λ zs. w (slice_get zs (suc k))) (changed-cons y ys i f) ∙ changed-same w ys i f step k

-- ---- lists made of others

-- a list made of others keeps where an item is changed to one of which the same is made
pub flat_map-kept : {A B : Type 0} (g : A → List B) (xs : List A) (i : ℕ) (f : A → A) → ((x : A) → g (f x) ≡ g x) → flat_map g (changed xs i f) ≡ flat_map g xs
flat_map-kept g [] i f h = refl
flat_map-kept g (x ∷ xs) zero f h = ap (λ zs. zs ++ flat_map g xs) (h x)
flat_map-kept g (x ∷ xs) (suc i) f h = ap (flat_map g) (changed-cons x xs i f) ∙ ap (λ zs. g x ++ zs) (flat_map-kept g xs i f h)

-- of lists made of lists
pub flat_map-twice : {A B C : Type 0} (f : A → List B) (g : B → List C) (xs : List A) → flat_map g (flat_map f xs) ≡ flat_map (λ x. flat_map g (f x)) xs
flat_map-twice f g [] = refl
flat_map-twice f g (x ∷ xs) = flat_map-append g (f x) (flat_map f xs) ∙ ap (λ zs. flat_map g (f x) ++ zs) (flat_map-twice f g xs)

pub flat_map-map : {A B C D : Type 0} (f : A → B) (g : B → List C) (h : D → C) (k : A → List D) (xs : List A) → ((x : A) → g (f x) ≡ map h (k x))
    → flat_map g (map f xs) ≡ map h (flat_map k xs)
flat_map-map f g h k [] e = refl
flat_map-map f g h k (x ∷ xs) e =
    ap (λ zs. zs ++ flat_map g (map f xs)) (e x) ∙ ap (λ zs. map h (k x) ++ zs) (flat_map-map f g h k xs e) ∙ sym (map-append h (k x) (flat_map k xs))

-- ---- two lists side by side

pub zip-changed : {A B : Type 0} (R : A → B → Type 0) (ps : List A) (xs : List B) (i : ℕ) (f : B → B) → ((q : A) (x : B) → slice_get ps i ≡ Some q
    → slice_get xs i ≡ Some x → R q x → R q (f x)) → AllZip R ps xs → AllZip R ps (changed xs i f)
zip-changed R [] [] i f step h = h
zip-changed R [] (y ∷ ys) i f step h = absurd h
zip-changed R (q ∷ ps) [] i f step h = absurd h
zip-changed R (q ∷ ps) (y ∷ ys) zero f step h = (step q y refl refl h.0, h.1)
zip-changed R (q ∷ ps) (y ∷ ys) (suc i) f step h =
    subst (AllZip R (q ∷ ps)) (sym (changed-cons y ys i f)) (h.0, zip-changed R ps ys i f step h.1)

pub zip-get : {A B : Type 0} (R : A → B → Type 0) (ps : List A) (xs : List B) (i : ℕ) (q : A) (x : B) → slice_get ps i ≡ Some q → slice_get xs i ≡ Some x
    → AllZip R ps xs → R q x
zip-get R [] [] i q x there at h = absurd (no_some x at)
zip-get R [] (y ∷ ys) i q x there at h = absurd h
zip-get R (p ∷ ps) [] i q x there at h = absurd h
zip-get {A} {B} R (p ∷ ps) (y ∷ ys) zero q x there at h =
    subst (λ (z : B). R q z) (same_some y x at) (subst (λ (z : A). R z y) (same_some p q there) h.0)
zip-get R (p ∷ ps) (y ∷ ys) (suc i) q x there at h = zip-get R ps ys i q x there at h.1

pub zip-length : {A B : Type 0} (R : A → B → Type 0) (ps : List A) (xs : List B) → AllZip R ps xs → length ps ≡ length xs
zip-length R [] [] h = refl
zip-length R [] (x ∷ xs) h = absurd h
zip-length R (q ∷ ps) [] h = absurd h
zip-length R (q ∷ ps) (x ∷ xs) h = ap suc (zip-length R ps xs h.1)

pub zip-append : {A B : Type 0} (R : A → B → Type 0) (ps qs : List A) (xs ys : List B) → AllZip R ps xs → AllZip R qs ys → AllZip R (ps ++ qs) (xs ++ ys)
zip-append R [] qs [] ys h k = k
zip-append R [] qs (x ∷ xs) ys h k = absurd h
zip-append R (p ∷ ps) qs [] ys h k = absurd h
zip-append R (p ∷ ps) qs (x ∷ xs) ys h k = (h.0, zip-append R ps qs xs ys h.1 k)

pub zip-map : {A B : Type 0} (R : A → B → Type 0) (f : A → B) (xs : List A) → ((x : A) → R x (f x)) → AllZip R xs (map f xs)
zip-map R f [] h = tt
zip-map R f (x ∷ xs) h = (h x, zip-map R f xs h)

-- ---- a test of each item

pub all-changed : {A : Type 0} (t : A → Bool) (xs : List A) (i : ℕ) (f : A → A) (x : A) → slice_get xs i ≡ Some x → t (f x) ≡ true → list_all t xs ≡ true
    → list_all t (changed xs i f) ≡ true
all-changed t [] i f x at step h = h
all-changed t (y ∷ ys) zero f x at step h =
    and-both (t (f y)) (list_all t ys) (subst (λ z. t (f z) ≡ true) (sym (same_some y x at)) step) (and-right (t y) (list_all t ys) h)
all-changed t (y ∷ ys) (suc i) f x at step h =
    ap (list_all t) (changed-cons y ys i f)
    ∙ and-both (t y) (list_all t (changed ys i f)) (and-left (t y) (list_all t ys) h) (all-changed t ys i f x at step (and-right (t y) (list_all t ys) h))

pub all-each : {A : Type 0} (t : A → Bool) (xs : List A) (i : ℕ) (f : A → A) → ((x : A) → t x ≡ true → t (f x) ≡ true) → list_all t xs ≡ true
    → list_all t (changed xs i f) ≡ true
all-each t [] i f step h = h
all-each t (y ∷ ys) zero f step h = and-both (t (f y)) (list_all t ys) (step y (and-left (t y) (list_all t ys) h)) (and-right (t y) (list_all t ys) h)
all-each t (y ∷ ys) (suc i) f step h =
    ap (list_all t) (changed-cons y ys i f)
    ∙ and-both (t y) (list_all t (changed ys i f)) (and-left (t y) (list_all t ys) h) (all-each t ys i f step (and-right (t y) (list_all t ys) h))

pub all-get : {A : Type 0} (t : A → Bool) (xs : List A) (i : ℕ) (x : A) → slice_get xs i ≡ Some x → list_all t xs ≡ true → t x ≡ true
all-get t [] i x at h = absurd (no_some x at)
all-get t (y ∷ ys) zero x at h = subst (λ z. t z ≡ true) (same_some y x at) (and-left (t y) (list_all t ys) h)
all-get t (y ∷ ys) (suc i) x at h = all-get t ys i x at (and-right (t y) (list_all t ys) h)

pub all-map : {A B : Type 0} (t : B → Bool) (f : A → B) (xs : List A) → ((x : A) → t (f x) ≡ true) → list_all t (map f xs) ≡ true
all-map t f [] h = refl
all-map t f (x ∷ xs) h = and-both (t (f x)) (list_all t (map f xs)) (h x) (all-map t f xs h)

-- ---- one look-up after the other

pub bind-some : {A B : Type 0} (o : Option A) (f : A → Option B) (y : B) → (o >>= f) ≡ Some y → (x : A) × (o ≡ Some x) × (f x ≡ Some y)
bind-some None f y h = absurd (no_some y h)
bind-some (Some x) f y h = (x, refl, h)
