-- What a list with one more element contains.
use Rattle.std.proofs.Common.{◌≡◌, ◌⊎◌, inl, inr, zero, suc, List, ◌∷◌, arith}
use Rattle.std.specs.List.{Contains}

-- what stands among the later ones
pub later : {X : Type 0} (x y : X) (xs : List X) → Contains xs y → Contains (x ∷ xs) y
later x y xs there = (suc there.0, omega (arith, there.1), there.2)

-- what is the first or stands among the later ones
pub first_or_later : {X : Type 0} (x y : X) (xs : List X) → Contains (x ∷ xs) y → (x ≡ y) ⊎ Contains xs y
first_or_later x y xs (zero, within, at) = inl at
first_or_later x y xs (suc k, within, at) = inr (k, omega (arith, within), at)
