-- A cell that is written, at its place among cells whose names ascend.
use Rattle.std.proofs.Common.{◌≡◌, ℕ, suc, true, false, List, [], ◌∷◌, insert, slice_get, if◌then◌else◌, Option, Some, None, Ordering, Less, Equal, Greater, nat_cmp, refl, sym, ap, ◌∙◌}
use Rattle.std.proofs.lemmas.Bool.{false≢true, true≢false}
use Rattle.std.proofs.lemmas.Cmp.{nat_list_cmp_total}
use Rattle.std.specs.Cmp.Lexicographic.{slice_cmp}
use Rattle.std.specs.List.Sorted.{IsStrictlySortedBy}
use Rattle.std.specs.Ordering.{match_ordering, ordering_reverse, is_gt}
use Rattle.flow_model.specs.Mapping.{with_pair}
use Rattle.flow_model.proofs.Lookups.{one_name}
use Rattle.group_admission.proofs.Kept.{IsBelowAll, below_more, same_below}
use Rattle.group_admission.specs.Cells.{Ascend, count_below, held_in, is_of, set_here, set_there, with_cell}
use Rattle.group_admission.specs.Content.{Content, with_held}
use Rattle.group_admission.specs.declared.cell.Cell.{Cell}
use Rattle.group_admission.specs.declared.held.Held.{Held}

-- what is set behind the first leaves the first
pub set_here-cons : (x : Cell) (xs : List Cell) (i : ℕ) (held : Option Held) → set_here (x ∷ xs) (suc i) held ≡ x ∷ set_here xs i held
set_here-cons x xs i held = go (slice_get xs i)
  where
    go : (o : Option Cell) → set_there (x ∷ xs) (suc i) held o ≡ x ∷ set_there xs i held o
    go None = refl
    go (Some y) = refl

-- the cell at a name's place, where it is that name's, is the one to set
pub set_cell : (name : List ℕ) (held : Held) (cells : List Cell) → is_of name (slice_get cells (count_below name cells)) ≡ true → set_here cells (count_below name cells) (Some held) ≡ with_cell name held cells
set_cell name held [] h = absurd (false≢true h)
set_cell name held (x ∷ xs) h = go (slice_cmp nat_cmp name x.name) refl h (set_cell name held xs)
  where
    go : (o : Ordering) → slice_cmp nat_cmp name x.name ≡ o → is_of name (slice_get (x ∷ xs) (if is_gt o then suc (count_below name xs) else 0)) ≡ true
        → (is_of name (slice_get xs (count_below name xs)) ≡ true → set_here xs (count_below name xs) (Some held) ≡ with_cell name held xs)
        → set_here (x ∷ xs) (if is_gt o then suc (count_below name xs) else 0) (Some held)
        ≡ match_ordering o (record { name = name; held = Some held } ∷ x ∷ xs) (record x { held = Some held } ∷ xs) (x ∷ with_cell name held xs)
    go Less is h ih = absurd (false≢true (rw is at h))
    go Equal is h ih = refl
    go Greater is h ih = set_here-cons x xs (count_below name xs) (Some held) ∙ ap (λ (ys : List Cell). x ∷ ys) (ih h)

-- a new cell goes to the name's place
pub insert_cell : (name : List ℕ) (held : Held) (cells : List Cell) → is_of name (slice_get cells (count_below name cells)) ≡ false → insert cells (count_below name cells) (record { name = name; held = Some held }) ≡ with_cell name held cells
insert_cell name held [] h = refl
insert_cell name held (x ∷ xs) h = go (slice_cmp nat_cmp name x.name) refl h (insert_cell name held xs)
  where
    go : (o : Ordering) → slice_cmp nat_cmp name x.name ≡ o → is_of name (slice_get (x ∷ xs) (if is_gt o then suc (count_below name xs) else 0)) ≡ false
        → (is_of name (slice_get xs (count_below name xs)) ≡ false → insert xs (count_below name xs) (record { name = name; held = Some held }) ≡ with_cell name held xs)
        → insert (x ∷ xs) (if is_gt o then suc (count_below name xs) else 0) (record { name = name; held = Some held })
        ≡ match_ordering o (record { name = name; held = Some held } ∷ x ∷ xs) (record x { held = Some held } ∷ xs) (x ∷ with_cell name held xs)
    go Less is h ih = refl
    go Equal is h ih = absurd (true≢false (rw is at h))
    go Greater is h ih = ap (λ (ys : List Cell). x ∷ ys) (ih h)

-- a name that is below all cells that are held goes first
with_pair-first : (name : List ℕ) (held : Held) (cells : List Cell) → IsBelowAll name cells → with_pair name held (held_in cells) ≡ (name, held) ∷ held_in cells
with_pair-first name held [] h = refl
with_pair-first name held (x ∷ xs) h = go x.held (with_pair-first name held xs h.1)
  where
    go : (o : Option Held) → with_pair name held (held_in xs) ≡ (name, held) ∷ held_in xs → with_pair name held (with_held x.name o (held_in xs)) ≡ (name, held) ∷ with_held x.name o (held_in xs)
    go None ih = ih
    go (Some other) ih = rw h.0 refl

-- the names that are held, after a cell was written
pub held_in_with_cell : (name : List ℕ) (held : Held) (cells : List Cell) → Ascend cells → held_in (with_cell name held cells) ≡ with_pair name held (held_in cells)
unfolding IsStrictlySortedBy
held_in_with_cell name held [] sorted = refl
held_in_with_cell name held (x ∷ xs) sorted = go (slice_cmp nat_cmp name x.name) refl x.held refl (held_in_with_cell name held xs sorted.1)
  where
    go : (o : Ordering) → slice_cmp nat_cmp name x.name ≡ o → (h : Option Held) → x.held ≡ h
        → held_in (with_cell name held xs) ≡ with_pair name held (held_in xs)
        → held_in (match_ordering o (record { name = name; held = Some held } ∷ x ∷ xs) (record x { held = Some held } ∷ xs) (x ∷ with_cell name held xs))
        ≡ with_pair name held (with_held x.name h (held_in xs))
    go Less is None has ih = rw has (sym (with_pair-first name held xs (below_more name x.name xs is sorted.0)))
    go Less is (Some other) has ih = rw (is, has) refl
    go Equal is None has ih = rw (sym (one_name name x.name is)) (sym (with_pair-first name held xs (same_below name x.name xs is sorted.0)))
    go Equal is (Some other) has ih = rw is refl
    go Greater is None has ih = rw has ih
    go Greater is (Some other) has ih = rw (is, has) (ap (λ (ps : Content). (x.name, other) ∷ ps) ih)

above_turned : (a b : List ℕ) → slice_cmp nat_cmp a b ≡ Greater → slice_cmp nat_cmp b a ≡ Less
above_turned a b e = nat_list_cmp_total.antisymm b a ∙ ap ordering_reverse e

-- what is below all cells and below a name stays below all with that name's cell
below_with_cell : (first name : List ℕ) (held : Held) (cells : List Cell) → slice_cmp nat_cmp first name ≡ Less → IsBelowAll first cells → IsBelowAll first (with_cell name held cells)
below_with_cell first name held [] less h = (less, tt)
below_with_cell first name held (x ∷ xs) less h = go (slice_cmp nat_cmp name x.name) (below_with_cell first name held xs less h.1)
  where
    go : (o : Ordering) → IsBelowAll first (with_cell name held xs)
        → IsBelowAll first (match_ordering o (record { name = name; held = Some held } ∷ x ∷ xs) (record x { held = Some held } ∷ xs) (x ∷ with_cell name held xs))
    go Less ih = (less, h)
    go Equal ih = h
    go Greater ih = (h.0, ih)

-- the names ascend after a cell was written
pub ascend_with_cell : (name : List ℕ) (held : Held) (cells : List Cell) → Ascend cells → Ascend (with_cell name held cells)
unfolding IsStrictlySortedBy
ascend_with_cell name held [] sorted = (tt, tt)
ascend_with_cell name held (x ∷ xs) sorted = go (slice_cmp nat_cmp name x.name) refl (ascend_with_cell name held xs sorted.1)
  where
    go : (o : Ordering) → slice_cmp nat_cmp name x.name ≡ o → Ascend (with_cell name held xs)
        → Ascend (match_ordering o (record { name = name; held = Some held } ∷ x ∷ xs) (record x { held = Some held } ∷ xs) (x ∷ with_cell name held xs))
    go Less is ih = ((is, below_more name x.name xs is sorted.0), sorted)
    go Equal is ih = sorted
    go Greater is ih = (below_with_cell x.name name held xs (above_turned name x.name is) sorted.0, ih)
