-- What a name is found with, after the groups changed.
use Rattle.std.proofs.Common.{◌≡◌, ℕ, List, [], ◌∷◌, map, Option, Some, None, option_and_then, cond, Ordering, Less, Equal, Greater, nat_cmp, is_eq, refl, sym, ap, ◌∙◌}
use Rattle.std.specs.Cmp.Lexicographic.{slice_cmp}
use Rattle.std.specs.List.{AllByRecursion}
use Rattle.std.specs.List.Sorted.{IsStrictlySortedBy}
use Rattle.flow_model.specs.Mapping.{value_at, Ascends}
use Rattle.flow_model.proofs.Lookups.{IsBelowKeys, none_below, same_below}
use Rattle.group_admission.specs.Cells.{Ascend, held_in}
use Rattle.group_admission.specs.Content.{Content, each_held, with_held}
use Rattle.group_admission.specs.declared.cell.Cell.{Cell}
use Rattle.group_admission.specs.declared.held.Held.{Held}

-- a name is found as is said of what it was found with
pub found_each : (f : Held → Option Held) (q : List ℕ) (groups : Content) → Ascends groups → value_at q (each_held f groups) ≡ option_and_then f (value_at q groups)
unfolding IsStrictlySortedBy
found_each f q [] sorted = refl
found_each f q (p ∷ ps) sorted = go (slice_cmp nat_cmp q p.0) refl (f p.1) refl (found_each f q ps sorted.1)
  where
    go : (o : Ordering) → slice_cmp nat_cmp q p.0 ≡ o → (h : Option Held) → f p.1 ≡ h
        → value_at q (each_held f ps) ≡ option_and_then f (value_at q ps)
        → value_at q (with_held p.0 h (each_held f ps)) ≡ option_and_then f (cond (is_eq o) (Some p.1) (value_at q ps))
    go Less is None has ih = ih
    go Less is (Some held) has ih = rw is ih
    go Equal is None has ih = ih ∙ ap (option_and_then f) (none_below q ps (same_below q p.0 ps is sorted.0)) ∙ sym has
    go Equal is (Some held) has ih = rw is (sym has)
    go Greater is None has ih = ih
    go Greater is (Some held) has ih = rw is ih

below_each : (f : Held → Option Held) (first : List ℕ) (groups : Content) → IsBelowKeys first groups → IsBelowKeys first (each_held f groups)
below_each f first [] h = tt
below_each f first (p ∷ ps) h = go (f p.1) (below_each f first ps h.1)
  where
    go : (o : Option Held) → IsBelowKeys first (each_held f ps) → IsBelowKeys first (with_held p.0 o (each_held f ps))
    go None ih = ih
    go (Some held) ih = (h.0, ih)

-- the names ascend after each was changed or let go
pub Ascends-each_held : (f : Held → Option Held) (groups : Content) → Ascends groups → Ascends (each_held f groups)
unfolding IsStrictlySortedBy
Ascends-each_held f [] sorted = tt
Ascends-each_held f (p ∷ ps) sorted = go (f p.1) (Ascends-each_held f ps sorted.1)
  where
    go : (o : Option Held) → Ascends (each_held f ps) → Ascends (with_held p.0 o (each_held f ps))
    go None ih = ih
    go (Some held) ih = (below_each f p.0 ps sorted.0, ih)

below_cells : (first : List ℕ) (cells : List Cell) → AllByRecursion (λ y. slice_cmp nat_cmp first y ≡ Less) (map (λ (cell : Cell). cell.name) cells) → IsBelowKeys first (held_in cells)
below_cells first [] h = tt
below_cells first (x ∷ xs) h = go x.held (below_cells first xs h.1)
  where
    go : (o : Option Held) → IsBelowKeys first (held_in xs) → IsBelowKeys first (with_held x.name o (held_in xs))
    go None ih = ih
    go (Some held) ih = (h.0, ih)

-- the names that are held ascend
pub Ascends-held_in : (cells : List Cell) → Ascend cells → Ascends (held_in cells)
unfolding IsStrictlySortedBy
Ascends-held_in [] sorted = tt
Ascends-held_in (x ∷ xs) sorted = go x.held (Ascends-held_in xs sorted.1)
  where
    go : (o : Option Held) → Ascends (held_in xs) → Ascends (with_held x.name o (held_in xs))
    go None ih = ih
    go (Some held) ih = (below_cells x.name xs sorted.0, ih)
