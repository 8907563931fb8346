-- A choice by its number in the product.
use Rattle.std.specs.Prelude.{◌/◌, ◌%◌, ℕ, List, [], ◌∷◌, map, get_or}
use Rattle.std.specs.Borrow.{Bor}
use Rattle.flow_model.specs.Plain.{Plain, null}
use Rattle.matrix_expand.specs.Combos.{Pairs, Variables}
use Rattle.matrix_expand.specs.Expands.{size}

-- the choice of this number: the first variable's value counts whole products of the variables after it
abbrev pub choice : Variables → ℕ → Pairs
choice [] n = []
choice (v ∷ vs) n = (v.0, get_or v.1 (n / size vs) null) ∷ choice vs (n % size vs)

-- the pairs that a row of names and values refers to
abbrev pub row_pairs : List (Bor (List ℕ) × Bor Plain) → Pairs
row_pairs row = map (λ p. (p.0.now, p.1.now)) row
