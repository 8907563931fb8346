-- Two truths, what may be there, and items of lists.
use Rattle.std.proofs.Common.{◌≡◌, ℕ, zero, suc, ◌-◌, ◌<◌, ◌≤◌, Bool, true, false, ◌&&◌, List, [], ◌∷◌, ◌++◌, Some, None, length, map, slice_get, ap, refl, sym, arith}
use Rattle.std.proofs.lemmas.Bool.{true≢false}

pub and-left : (a b : Bool) → a && b ≡ true → a ≡ true
and-left true b h = refl
and-left false b h = h

pub and-right : (a b : Bool) → a && b ≡ true → b ≡ true
and-right true b h = h
and-right false b h = absurd (true≢false (sym h))

pub and-both : (a b : Bool) → a ≡ true → b ≡ true → a && b ≡ true
and-both a b ha hb = rw (ha, hb) refl

pub get-left : {T : Type 0} (xs ys : List T) (n : ℕ) → n < length xs → slice_get (xs ++ ys) n ≡ slice_get xs n
get-left [] ys n h = absurd (omega (arith, h))
get-left (x ∷ xs) ys zero h = refl
get-left (x ∷ xs) ys (suc n) h = get-left xs ys n (omega (arith, h))

pub get-right : {T : Type 0} (xs ys : List T) (n : ℕ) → length xs ≤ n → slice_get (xs ++ ys) n ≡ slice_get ys (n - length xs)
get-right [] ys n h = let e : n - 0 ≡ n = omega arith in rw e refl
get-right (x ∷ xs) ys zero h = absurd (omega (arith, h))
get-right (x ∷ xs) ys (suc n) h =
    let e : suc n - suc (length xs) ≡ n - length xs = omega arith in
    rw e (get-right xs ys n (omega (arith, h)))

-- ---- what may be there

pub same_some : {A : Type 0} (x y : A) → Some x ≡ Some y → x ≡ y
same_some x y h = cc

pub no_some : {A : Type 0} (x : A) → None ≡ Some x → ⊥
no_some x h = cc

-- ---- items of what is made of each item

pub map-get : {A B : Type 0} (g : A → B) (xs : List A) (i : ℕ) (x : A) → slice_get xs i ≡ Some x → slice_get (map g xs) i ≡ Some (g x)
map-get g [] i x at = absurd (no_some x at)
map-get g (y ∷ ys) zero x at = ap (λ z. Some (g z)) (same_some y x at)
map-get g (y ∷ ys) (suc i) x at = map-get g ys i x at

pub map-past : {A B : Type 0} (g : A → B) (xs : List A) (i : ℕ) → slice_get xs i ≡ None → slice_get (map g xs) i ≡ None
map-past g [] i at = refl
map-past g (y ∷ ys) zero at = absurd (no_some y (sym at))
map-past g (y ∷ ys) (suc i) at = map-past g ys i at
