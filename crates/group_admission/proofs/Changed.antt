-- All cells changed in place.
use Rattle.std.proofs.Common.{◌≡◌, ◌≤◌, ◌++◌, ℕ, List, [], ◌∷◌, map, length, take, drop, Option, Some, None, nat_cmp, refl, sym, ap, subst, arith}
use Rattle.std.specs.Cmp.Lexicographic.{slice_cmp}
use Rattle.std.specs.List.Sorted.{IsStrictlySortedBy}
use Rattle.flow_model.specs.declared.event.Member.{Member}
use Rattle.group_admission.proofs.Once.{fewer, released_fewer, weight, weight_of, withdrawn_fewer}
use Rattle.group_admission.specs.Cells.{Ascend, IsSound, changed, held_in}
use Rattle.group_admission.specs.Content.{Content, each_held, released, with_held, withdrawn}
use Rattle.group_admission.specs.declared.cell.Cell.{Cell}
use Rattle.group_admission.specs.declared.held.Held.{Held}

-- what is written over a whole list is what is left
pub whole : {X : Type 0} (new items : List X) → length new ≡ length items → take (length items) (new ++ drop (length new) items) ≡ new
whole [] [] e = refl
whole [] (y ∷ ys) e = absurd (omega arith)
whole (x ∷ xs) [] e = absurd (omega arith)
whole {X} (x ∷ xs) (y ∷ ys) e = ap (λ (zs : List X). x ∷ zs) (whole xs ys (omega arith))

-- no cells are sound
pub IsSound-none : IsSound []
unfolding IsStrictlySortedBy
IsSound-none = record { ordered = tt; once = λ m. omega arith }

names_stay : (f : Held → Option Held) (cells : List Cell) → map (λ (cell : Cell). cell.name) (map (changed f) cells) ≡ map (λ (cell : Cell). cell.name) cells
names_stay f [] = refl
names_stay f (x ∷ xs) = ap (λ (names : List (List ℕ)). x.name ∷ names) (names_stay f xs)

-- the names ascend after all cells were changed
pub Ascend-changed : (f : Held → Option Held) (cells : List Cell) → Ascend cells → Ascend (map (changed f) cells)
Ascend-changed f cells sorted = subst (IsStrictlySortedBy (slice_cmp nat_cmp)) (sym (names_stay f cells)) sorted

-- the names that are held, after all cells were changed
pub held_in-changed : (f : Held → Option Held) (cells : List Cell) → held_in (map (changed f) cells) ≡ each_held f (held_in cells)
held_in-changed f [] = refl
held_in-changed f (x ∷ xs) = go x.held (held_in-changed f xs)
  where
    go : (held : Option Held) → held_in (map (changed f) xs) ≡ each_held f (held_in xs) → held_in (changed f (record x { held = held }) ∷ map (changed f) xs) ≡ each_held f (with_held x.name held (held_in xs))
    go None ih = ih
    go (Some held) ih = ap (λ (groups : Content). with_held x.name (f held) groups) ih

-- cells stay sound where none has more places
sound_changed : (f : Held → Option Held) → ((x : Member) (held : Held) → weight_of x (f held) ≤ weight x held) → (cells : List Cell) → IsSound cells → IsSound (map (changed f) cells)
sound_changed f less cells sound = record {
  ordered = Ascend-changed f cells sound.ordered;
  once = rw (held_in-changed f cells) (λ x. let a = fewer x f (less x) (held_in cells) in let b = sound.once x in omega (arith, a, b));
}

-- cells stay sound after a member released
pub IsSound-released : (m : Member) (cells : List Cell) → IsSound cells → IsSound (map (changed (released m)) cells)
IsSound-released m = sound_changed (released m) (λ x. released_fewer x m)

-- cells stay sound after a member left its wait
pub IsSound-withdrawn : (m : Member) (cells : List Cell) → IsSound cells → IsSound (map (changed (withdrawn m)) cells)
IsSound-withdrawn m = sound_changed (withdrawn m) (λ x. withdrawn_fewer x m)
