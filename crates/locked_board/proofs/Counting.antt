-- Lists with one item more, and what shares have counted.
use Rattle.std.proofs.Common.{◌≡◌, ℕ, suc, ◌+◌, List, [], ◌∷◌, ◌++◌, length, refl, ap, ◌∙◌, arith}
use Rattle.std.proofs.lemmas.List.{map-append}
use Rattle.std.proofs.lemmas.List.Sums.{sum_by-append, sum_by-cons}
use Rattle.status_table.specs.Words.{Entry, numbers}
use Rattle.locked_board.specs.Hand.{Hand, new_hand, new_hands, all_entries}

length_last : (es : List Entry) (e : Entry) → length (es ++ e ∷ []) ≡ length es + 1
length_last [] e = refl
length_last (f ∷ es) e = let later = length_last es e in omega (arith, later)

-- a history with one entry more
pub one_more : (es new : List Entry) (e : Entry) → new ≡ es ++ e ∷ [] → length new ≡ length es + 1
one_more es new e h = ap length h ∙ length_last es e

-- one share more
pub one_more_hand : (n : ℕ) → new_hands (suc n) ≡ new_hands n ++ new_hand n ∷ []
one_more_hand n = map-append new_hand (numbers n) (n ∷ [])

entries_last : (hands : List Hand) (hand : Hand) → all_entries (hands ++ hand ∷ []) ≡ all_entries hands + hand.entries
entries_last hands hand =
    let both = sum_by-append (λ (h : Hand). h.entries) hands (hand ∷ []) in
    let one = sum_by-cons (λ (h : Hand). h.entries) hand [] in
    omega (arith, both, one)

-- what all shares but the last have counted
pub all_but_last : (all hands : List Hand) (hand : Hand) → all ≡ hands ++ hand ∷ [] → all_entries all ≡ all_entries hands + hand.entries
all_but_last all hands hand h = ap all_entries h ∙ entries_last hands hand
