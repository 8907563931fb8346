-- New rows, one more.
use Rattle.std.proofs.Common.{◌≡◌, ◌+◌, ◌++◌, ℕ, zero, suc, List, [], ◌∷◌, refl, ap, ◌∙◌, append_assoc, arith}
use Rattle.board_timeline.specs.Rows.{new_row, new_rows}
use Rattle.board_timeline.specs.declared.row.Row.{Row}

at_end : (n : ℕ) → new_rows n ++ new_row ∷ [] ≡ new_rows (suc n)
at_end zero = refl
at_end (suc n) = ap (λ (rows : List Row). new_row ∷ rows) (at_end n)

pub more_rows : (n : ℕ) (before : List Row) → (before ++ new_rows n) ++ new_row ∷ [] ≡ before ++ new_rows (n + 1)
more_rows n before =
    let next : suc n ≡ n + 1 = omega arith in
    append_assoc before (new_rows n) (new_row ∷ [])
    ∙ ap (λ (rows : List Row). before ++ rows) (at_end n)
    ∙ ap (λ (k : ℕ). before ++ new_rows k) next
