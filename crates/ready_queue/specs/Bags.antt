-- Lists as bags, and lists that stand within others in order.
use Rattle.std.specs.Prelude.{◌≡◌, ℕ, ◌+◌, ◌==◌, ◌⊎◌, List, [], ◌∷◌, if◌then◌else◌}

-- The weights of the tickets, added up.
abbrev pub weigh : (ℕ → ℕ) → List ℕ → ℕ
weigh weight [] = 0
weigh weight (x ∷ xs) = weight x + weigh weight xs

-- Two lists are one bag: they weigh the same, however each ticket is weighed. So they are equally long, and each ticket stands
-- equally often in both.
abbrev pub SameBag : List ℕ → List ℕ → Type 0
SameBag xs ys = (weight : ℕ → ℕ) → weigh weight xs ≡ weigh weight ys

-- How often a ticket stands in a list.
abbrev pub times : ℕ → List ℕ → ℕ
times x xs = weigh (λ y. if x == y then 1 else 0) xs

-- The first list stands in the second in its order, with others between.
abbrev pub InOrder : List ℕ → List ℕ → Type 0
InOrder [] ys = Unit {0}
InOrder (x ∷ xs) [] = ⊥
InOrder (x ∷ xs) (y ∷ ys) = ((x ≡ y) × InOrder xs ys) ⊎ InOrder (x ∷ xs) ys
