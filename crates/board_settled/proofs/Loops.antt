-- Loops that hold one item after the other against what is settled: those that are left are settled where all are.
use Rattle.std.proofs.Common.{◌≡◌, ◌↔◌, false, IsTrue, List, ◌∷◌, sym, subst₂}
use Rattle.board_settled.specs.Words.{AllZip}
use Rattle.std.proofs.lemmas.Bool.{true≢false}

-- one holds where another does, which holds where a third does
pub through : {A B C : Type 0} → A ↔ B → B ↔ C → A ↔ C
through one two = (λ a. two.0 (one.0 a), λ c. one.1 (two.1 c))

-- two lists side by side, by their first items
pub zip-first : {A B : Type 0} (R : A → B → Type 0) (xs more : List A) (ys rest : List B) (x : A) (y : B) → xs ≡ x ∷ more → ys ≡ y ∷ rest → AllZip R xs ys ↔ (R x y × AllZip R more rest)
zip-first R xs more ys rest x y xs_is ys_is = (λ h. subst₂ (AllZip R) xs_is ys_is h, λ h. subst₂ (AllZip R) (sym xs_is) (sym ys_is) h)

module _ {All Left Here Later : Type 0} (so_far : Left ↔ All) (first : Left ↔ (Here × Later)) where
  -- where the first of those that are left is settled, the others are where all are
  pub goes_on : Here → Later ↔ All
  goes_on here = (λ later. so_far.0 (first.1 (here, later)), λ all. (first.0 (so_far.1 all)).1)

  -- where it is not, not all are
  pub ends_here : (Here → ⊥) → IsTrue false ↔ All
  ends_here fails = (λ h. absurd (true≢false (sym h)), λ all. absurd (fails (first.0 (so_far.1 all)).0))
