-- Where a name's cell stands among cells whose names ascend.
use Rattle.std.proofs.Common.{◌≡◌, ◌<◌, ◌≤◌, ℕ, zero, suc, Bool, true, false, List, [], ◌∷◌, length, map, slice_get, if◌then◌else◌, Ordering, Less, Equal, Greater, nat_cmp, refl, ap, ◌∙◌, arith}
use Rattle.std.proofs.lemmas.Cmp.{nat_list_cmp_total}
use Rattle.std.specs.Cmp.Lexicographic.{slice_cmp}
use Rattle.std.specs.List.{AllByRecursion}
use Rattle.std.specs.List.Sorted.{IsStrictlySortedBy}
use Rattle.std.specs.Ordering.{ordering_reverse, is_gt}
use Rattle.std.proofs.lemmas.Bool.{false≢true}
use Rattle.group_admission.specs.Cells.{Ascend, count_below, is_above}
use Rattle.group_admission.specs.declared.cell.Cell.{Cell}

-- a name that is not above the cell at a place stands there or before
pub count_at_most : (name : List ℕ) (cells : List Cell) (i : ℕ) → is_above name (slice_get cells i) ≡ false → count_below name cells ≤ i
count_at_most name [] i h = omega arith
count_at_most name (x ∷ xs) zero h = rw h (omega arith)
count_at_most name (x ∷ xs) (suc i) h = go (is_gt (slice_cmp nat_cmp name x.name)) (count_at_most name xs i h)
  where
    go : (b : Bool) → count_below name xs ≤ i → (if b then suc (count_below name xs) else 0) ≤ suc i
    go true ih = omega (arith, ih)
    go false ih = omega arith

-- no more cells stand below a name than there are
pub count_within : (name : List ℕ) (cells : List Cell) → count_below name cells ≤ length cells
count_within name [] = omega arith
count_within name (x ∷ xs) = go (is_gt (slice_cmp nat_cmp name x.name)) (count_within name xs)
  where
    go : (b : Bool) → count_below name xs ≤ length xs → (if b then suc (count_below name xs) else 0) ≤ length (x ∷ xs)
    go true ih = omega (arith, ih)
    go false ih = omega arith

is-greater : (o : Ordering) → is_gt o ≡ true → o ≡ Greater
is-greater Less h = absurd (false≢true h)
is-greater Equal h = absurd (false≢true h)
is-greater Greater h = refl

-- what is below a name that this one is above is below this one
pub above_below : (name low middle : List ℕ) → slice_cmp nat_cmp low middle ≡ Less → slice_cmp nat_cmp name middle ≡ Greater → slice_cmp nat_cmp name low ≡ Greater
above_below name low middle less above =
    let turned : slice_cmp nat_cmp middle name ≡ Less = nat_list_cmp_total.antisymm middle name ∙ ap ordering_reverse above in
    nat_list_cmp_total.antisymm name low ∙ ap ordering_reverse (nat_list_cmp_total.trans low middle name less turned)

-- the first of some ascending names is below a name that is above one of the others
first_above : (name first : List ℕ) (cells : List Cell) (i : ℕ) → AllByRecursion (λ y. slice_cmp nat_cmp first y ≡ Less) (map (λ (cell : Cell). cell.name) cells) → is_above name (slice_get cells i) ≡ true → slice_cmp nat_cmp name first ≡ Greater
first_above name first [] i all h = absurd (false≢true h)
first_above name first (x ∷ xs) zero all h = above_below name first x.name all.0 (is-greater (slice_cmp nat_cmp name x.name) h)
first_above name first (x ∷ xs) (suc i) all h = first_above name first xs i all.1 h

-- a name that is above the cell at a place stands behind it
pub count_above : (name : List ℕ) (cells : List Cell) (i : ℕ) → Ascend cells → is_above name (slice_get cells i) ≡ true → i < count_below name cells
unfolding IsStrictlySortedBy
count_above name [] i sorted h = absurd (false≢true h)
count_above name (x ∷ xs) zero sorted h = rw h (omega arith)
count_above name (x ∷ xs) (suc i) sorted h =
    let above = first_above name x.name xs i sorted.0 h in
    let ih = count_above name xs i sorted.1 h in
    rw above (omega (arith, ih))
