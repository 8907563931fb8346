-- The cells beside the names that are held.
use Rattle.std.proofs.Common.{◌≡◌, ℕ, suc, List, [], ◌∷◌, map, slice_get, if◌then◌else◌, Option, Some, None, Ordering, Less, Equal, Greater, nat_cmp, refl, ◌∙◌}
use Rattle.std.proofs.lemmas.Cmp.{nat_list_cmp_total}
use Rattle.std.specs.Cmp.Lexicographic.{slice_cmp}
use Rattle.std.specs.List.{AllByRecursion}
use Rattle.std.specs.List.Sorted.{IsStrictlySortedBy}
use Rattle.std.specs.Ordering.{is_gt}
use Rattle.flow_model.specs.Mapping.{value_at}
use Rattle.group_admission.specs.Cells.{Ascend, count_below, held_here, held_in}
use Rattle.group_admission.specs.Content.{with_held}
use Rattle.group_admission.specs.declared.cell.Cell.{Cell}
use Rattle.group_admission.specs.declared.held.Held.{Held}

-- a name is below those of all cells
abbrev pub IsBelowAll : List ℕ → List Cell → Type 0
IsBelowAll name cells = AllByRecursion (λ y. slice_cmp nat_cmp name y ≡ Less) (map (λ (cell : Cell). cell.name) cells)

-- nobody holds a name that is below those of all cells
pub none_below : (name : List ℕ) (cells : List Cell) → IsBelowAll name cells → value_at name (held_in cells) ≡ None
none_below name [] h = refl
none_below name (x ∷ xs) h = go x.held (none_below name xs h.1)
  where
    go : (held : Option Held) → value_at name (held_in xs) ≡ None → value_at name (with_held x.name held (held_in xs)) ≡ None
    go None ih = ih
    go (Some held) ih = rw h.0 ih

-- what is below a cell is below those behind it
pub below_more : (name first : List ℕ) (cells : List Cell) → slice_cmp nat_cmp name first ≡ Less → IsBelowAll first cells → IsBelowAll name cells
below_more name first [] less h = tt
below_more name first (x ∷ xs) less h = (nat_list_cmp_total.trans name first x.name less h.0, below_more name first xs less h.1)

-- what is as a cell's name is below those behind it
pub same_below : (name first : List ℕ) (cells : List Cell) → slice_cmp nat_cmp name first ≡ Equal → IsBelowAll first cells → IsBelowAll name cells
same_below name first [] same h = tt
same_below name first (x ∷ xs) same h = (nat_list_cmp_total.congr name first x.name same ∙ h.0, same_below name first xs same h.1)

-- who holds a name is told by the cell at its place
pub held_at_place : (name : List ℕ) (cells : List Cell) → Ascend cells → value_at name (held_in cells) ≡ held_here name (slice_get cells (count_below name cells))
unfolding IsStrictlySortedBy
held_at_place name [] sorted = refl
held_at_place name (x ∷ xs) sorted = go (slice_cmp nat_cmp name x.name) refl x.held refl (held_at_place name xs sorted.1)
  where
    go : (o : Ordering) → slice_cmp nat_cmp name x.name ≡ o → (held : Option Held) → x.held ≡ held
        → value_at name (held_in xs) ≡ held_here name (slice_get xs (count_below name xs))
        → value_at name (with_held x.name held (held_in xs)) ≡ held_here name (slice_get (x ∷ xs) (if is_gt o then suc (count_below name xs) else 0))
    go Less is None has ih = rw is (none_below name xs (below_more name x.name xs is sorted.0))
    go Less is (Some held) has ih = rw is (none_below name xs (below_more name x.name xs is sorted.0))
    go Equal is None has ih = rw (is, has) (none_below name xs (same_below name x.name xs is sorted.0))
    go Equal is (Some held) has ih = rw (is, has) refl
    go Greater is None has ih = ih
    go Greater is (Some held) has ih = rw is ih
