-- Keys that ascend, with one taken out.
use Rattle.std.proofs.Common.{◌≡◌, ℕ, List, [], ◌∷◌, ◌++◌, Less, nat_cmp}
use Rattle.std.specs.Cmp.Lexicographic.{slice_cmp}
use Rattle.std.specs.List.{AllByRecursion}
use Rattle.std.specs.List.Sorted.{IsStrictlySortedBy}

all_without : (P : List ℕ → Type 0) (ks : List (List ℕ)) (k : List ℕ) (ls : List (List ℕ)) → AllByRecursion P (ks ++ k ∷ ls) → AllByRecursion P (ks ++ ls)
all_without P [] k ls h = h.1
all_without P (x ∷ ks) k ls h = (h.0, all_without P ks k ls h.1)

pub ascend_without : (ks : List (List ℕ)) (k : List ℕ) (ls : List (List ℕ)) → IsStrictlySortedBy (slice_cmp nat_cmp) (ks ++ k ∷ ls) → IsStrictlySortedBy (slice_cmp nat_cmp) (ks ++ ls)
unfolding IsStrictlySortedBy
ascend_without [] k ls h = h.1
ascend_without (x ∷ ks) k ls h = (all_without (λ y. slice_cmp nat_cmp x y ≡ Less) ks k ls h.0, ascend_without ks k ls h.1)
