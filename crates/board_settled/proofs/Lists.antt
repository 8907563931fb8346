-- Lists of which something holds at each place, and lists made of others.
use Rattle.std.proofs.Common.{◌≡◌, ◌≢◌, ℕ, zero, suc, ◌<◌, ◌==◌, ◌||◌, Bool, true, false, List, [], ◌∷◌, Option, Some, None, option_map, length, map, take, slice_get, count_by, replicate, cond, inl, inr, ap, subst₂, sym, refl, ◌∙◌, arith}
use Rattle.board_settled.specs.Words.{AllZip, changed, cons_option, filter_map, list_all, list_any}
use Rattle.std.proofs.lemmas.Bool.{cases_eq}
use Rattle.std.proofs.lemmas.Bool.Decides.{nat_tests}
use Rattle.std.proofs.lemmas.List.Sums.{sum_by-cons}
use Rattle.std.proofs.lemmas.Option.{slice_get-map}
use Rattle.status_table.proofs.Counts.{map-some}
use Rattle.status_table.proofs.Lists.{changed-there, changed-elsewhere, zip-get, zip-length}
use Rattle.board_decisions.proofs.Lists.{and-left, and-right, and-both, same_some}

-- ---- a list with one item changed

-- What holds at each place holds after a change, if it holds of the changed item and then still of the others.
pub each-changed : {T : Type 0} (P : ℕ → T → Type 0) (xs : List T) (i : ℕ) (f : T → T) (x : T) → slice_get xs i ≡ Some x → P i (f x)
    → ((k : ℕ) (y : T) → k ≢ i → slice_get xs k ≡ Some y → P k y)
    → (k : ℕ) (y : T) → slice_get (changed xs i f) k ≡ Some y → P k y
each-changed P xs i f x there here others k y is = elim (cases_eq k i) as (λ _. P k y) [
  | inl e ↦ subst₂ P (sym e) (same_some (f x) y (sym (changed-there xs i f x there) ∙ ap (slice_get (changed xs i f)) (sym e) ∙ is)) here
  | inr n ↦ others k y n (sym (changed-elsewhere xs i f k n) ∙ is)
]

-- ---- two lists side by side

-- two lists of one length, of whose items at each place something holds
pub zip-each : {A B : Type 0} (R : A → B → Type 0) (xs : List A) (ys : List B) → length xs ≡ length ys
    → ((i : ℕ) (x : A) (y : B) → slice_get xs i ≡ Some x → slice_get ys i ≡ Some y → R x y) → AllZip R xs ys
zip-each R [] [] same h = tt
zip-each R (x ∷ xs) (y ∷ ys) same h = (h 0 x y refl refl, zip-each R xs ys (omega (arith, same)) (λ i a b p q. h (suc i) a b p q))
zip-each R xs ys same h = absurd (omega (arith, same))

-- what holds of two lists side by side, where more holds by the place of the second
pub zip-more : {A B : Type 0} (R S : A → B → Type 0) (xs : List A) (ys : List B) → ((i : ℕ) (x : A) (y : B) → slice_get ys i ≡ Some y → R x y → S x y) → AllZip R xs ys → AllZip S xs ys
zip-more R S xs ys more h = zip-each S xs ys (zip-length R xs ys h) (λ i x y at there. more i x y there (zip-get R xs ys i x y at there h))

-- ---- the front of a list

pub get-take : {T : Type 0} (xs : List T) (n i : ℕ) → i < n → slice_get (take n xs) i ≡ slice_get xs i
get-take xs zero i h = absurd (omega (arith, h))
get-take [] (suc n) i h = refl
get-take (x ∷ xs) (suc n) zero h = refl
get-take (x ∷ xs) (suc n) (suc i) h = get-take xs n i (omega (arith, h))

-- an item of what is made of each item
pub mapped_from : {A B : Type 0} (f : A → B) (xs : List A) (i : ℕ) (y : B) → slice_get (map f xs) i ≡ Some y → (x : A) × (slice_get xs i ≡ Some x) × (f x ≡ y)
mapped_from f xs i y h = map-some f (slice_get xs i) y (sym (slice_get-map f xs i) ∙ h)

-- ---- tests of all items

pub all-of : {A : Type 0} (t : A → Bool) (xs : List A) → ((i : ℕ) (x : A) → slice_get xs i ≡ Some x → t x ≡ true) → list_all t xs ≡ true
all-of t [] h = refl
all-of t (x ∷ xs) h = and-both (t x) (list_all t xs) (h 0 x refl) (all-of t xs (λ i y is. h (suc i) y is))

-- two tests of items that pass another
pub any-where : {A : Type 0} (u s t : A → Bool) (xs : List A) → ((x : A) → u x ≡ true → s x ≡ t x) → list_all u xs ≡ true → list_any s xs ≡ list_any t xs
any-where u s t [] h k = refl
any-where u s t (x ∷ xs) h k =
    ap (λ c. c || list_any s xs) (h x (and-left (u x) (list_all u xs) k))
    ∙ ap (λ c. t x || c) (any-where u s t xs h (and-right (u x) (list_all u xs) k))

pub any-map : {A B : Type 0} (t : B → Bool) (f : A → B) (xs : List A) → list_any t (map f xs) ≡ list_any (λ x. t (f x)) xs
any-map t f [] = refl
any-map t f (x ∷ xs) = ap (λ c. t (f x) || c) (any-map t f xs)

-- ---- what some items give

-- items that pass a test and give the same
pub filter_map-where : {A B : Type 0} (u : A → Bool) (f g : A → Option B) (xs : List A) → ((x : A) → u x ≡ true → f x ≡ g x) → list_all u xs ≡ true
    → filter_map f xs ≡ filter_map g xs
filter_map-where u f g [] h k = refl
filter_map-where u f g (x ∷ xs) h k =
    ap (λ o. cons_option o (filter_map f xs)) (h x (and-left (u x) (list_all u xs) k))
    ∙ ap (λ ys. cons_option (g x) ys) (filter_map-where u f g xs h (and-right (u x) (list_all u xs) k))

-- what is made of what some items give
pub map-filter_map : {A B C : Type 0} (g : B → C) (f : A → Option B) (xs : List A) → map g (filter_map f xs) ≡ filter_map (λ x. option_map g (f x)) xs
map-filter_map g f [] = refl
map-filter_map {A} {B} {C} g f (x ∷ xs) = by (f x) (map-filter_map g f xs)
  where
    by : (o : Option B) → map g (filter_map f xs) ≡ filter_map (λ y. option_map g (f y)) xs
        → map g (cons_option o (filter_map f xs)) ≡ cons_option (option_map g o) (filter_map (λ y. option_map g (f y)) xs)
    by None later = later
    by (Some y) later = ap (λ (zs : List C). g y ∷ zs) later

-- ---- one number among others

-- what a number gives among others, which give nothing: it, as often as the number stands there
pub given-often : {B : Type 0} (f : ℕ → Option B) (n : ℕ) (b : B) (xs : List ℕ) → f n ≡ Some b → ((x : ℕ) → x ≢ n → f x ≡ None)
    → filter_map f xs ≡ replicate (count_by (λ x. x == n) xs) b
given-often f n b [] is h = refl
given-often {B} f n b (x ∷ xs) is h =
    let all = sum_by-cons (λ y. cond (y == n) 1 0) x xs in
    let later = given-often f n b xs is h in
    elim (cases_eq x n) as (λ _. filter_map f (x ∷ xs) ≡ replicate (count_by (λ y. y == n) (x ∷ xs)) b) [
      | inl e ↦
          let here : (x == n) ≡ true = grind (arith, nat_tests, e) in
          let one = ap {B = ℕ} (λ c. cond c 1 0) here in
          let more : suc (count_by (λ y. y == n) xs) ≡ count_by (λ y. y == n) (x ∷ xs) = omega (arith, all, one) in
          (λ i. cons_option ((ap f e ∙ is) i) (later i)) ∙ ap (λ k. replicate k b) more
      | inr m ↦
          let here : (x == n) ≡ false = grind (arith, nat_tests, m) in
          let none = ap {B = ℕ} (λ c. cond c 1 0) here in
          let same : count_by (λ y. y == n) xs ≡ count_by (λ y. y == n) (x ∷ xs) = omega (arith, all, none) in
          (λ i. cons_option (h x m i) (later i)) ∙ ap (λ k. replicate k b) same
    ]
