use Rattle.std.proofs.Common.{◌≡◌, ◌<◌, ℕ, List, [], ◌∷◌, length, drop, drop-cons, Greater, nat_cmp, arith, refl, sym, ◌∙◌}
use Rattle.std.specs.Cmp.Lexicographic.{slice_cmp}
use Rattle.expr_reader.specs.Fold.{fold}
use Rattle.group_admission.proofs.cell.folded_order.Goals as goal

-- a name with bytes left is above a text that has none left
above_end : (bytes rest : List ℕ) (k : ℕ) → k < length bytes → length rest < 1 → slice_cmp nat_cmp (fold (drop k bytes)) rest ≡ Greater
above_end bytes (x ∷ xs) k h short = absurd (omega arith)
above_end bytes [] k h short = rw (drop-cons bytes k 0 h) refl

pub returns-in-empty : goal.returns-in-empty
returns-in-empty c =
    sym (above_end c.as_bytes-bytes.result.now c.loop-byte.rest.now c.loop-byte.byte-index c.loop-byte-test.true c.in-empty.len_below) ∙ c.loop-byte.invariant
