-- One cell changed by its name, among cells whose names ascend and where no member stands in two places.
use Rattle.std.proofs.Common.{◌≡◌, ◌≢◌, ◌≤◌, ℕ, suc, Bool, true, false, List, [], ◌∷◌, map, slice_get, if◌then◌else◌, Option, Some, None, option_map, option_and_then, Ordering, Less, Equal, Greater, nat_cmp, refl, sym, ap, subst, ◌∙◌, arith}
use Rattle.std.proofs.lemmas.Bool.{false≢true, true≢false}
use Rattle.std.specs.Cmp.Lexicographic.{slice_cmp}
use Rattle.std.specs.List.Sorted.{IsStrictlySortedBy}
use Rattle.std.specs.Ordering.{match_ordering, is_gt}
use Rattle.flow_model.specs.Mapping.{value_at}
use Rattle.flow_model.specs.declared.event.Member.{Member}
use Rattle.group_admission.proofs.Changed.{IsSound-released, IsSound-withdrawn, held_in-changed}
use Rattle.group_admission.proofs.Kept.{below_more, none_below, same_below}
use Rattle.group_admission.proofs.Leaving.{no_member}
use Rattle.group_admission.proofs.Members.{another, member_itself, there}
use Rattle.group_admission.proofs.Once.{has_places, weight}
use Rattle.group_admission.specs.Cells.{Ascend, IsSound, change_here, change_there, changed, changed_at, count_below, held_in, is_of}
use Rattle.group_admission.specs.Content.{after_release, after_withdraw, holder_of, is_member, left_by, one, places_of, released, same_member, waiter_of, with_held, withdrawn}
use Rattle.group_admission.specs.declared.cell.Cell.{Cell}
use Rattle.group_admission.specs.declared.held.Held.{Held}

-- ---- the cell at a name's place

-- what is changed behind the first leaves the first
change_here-cons : (f : Held → Option Held) (x : Cell) (xs : List Cell) (i : ℕ) → change_here f (x ∷ xs) (suc i) ≡ x ∷ change_here f xs i
change_here-cons f x xs i = go (slice_get xs i)
  where
    go : (o : Option Cell) → change_there f (x ∷ xs) (suc i) o ≡ x ∷ change_there f xs i o
    go None = refl
    go (Some y) = refl

-- the cell at a name's place, where it is that name's, is the one to change
pub change_cell : (name : List ℕ) (f : Held → Option Held) (cells : List Cell) → is_of name (slice_get cells (count_below name cells)) ≡ true
    → change_here f cells (count_below name cells) ≡ changed_at name f cells
change_cell name f [] h = absurd (false≢true h)
change_cell name f (x ∷ xs) h = go (slice_cmp nat_cmp name x.name) refl h (change_cell name f xs)
  where
    go : (o : Ordering) → slice_cmp nat_cmp name x.name ≡ o → is_of name (slice_get (x ∷ xs) (if is_gt o then suc (count_below name xs) else 0)) ≡ true
        → (is_of name (slice_get xs (count_below name xs)) ≡ true → change_here f xs (count_below name xs) ≡ changed_at name f xs)
        → change_here f (x ∷ xs) (if is_gt o then suc (count_below name xs) else 0) ≡ match_ordering o (x ∷ xs) (changed f x ∷ xs) (x ∷ changed_at name f xs)
    go Less is h ih = absurd (false≢true (rw is at h))
    go Equal is h ih = refl
    go Greater is h ih = change_here-cons f x xs (count_below name xs) ∙ ap (λ (ys : List Cell). x ∷ ys) (ih h)

-- a name that has no cell changes none
pub no_cell : (name : List ℕ) (f : Held → Option Held) (cells : List Cell) → is_of name (slice_get cells (count_below name cells)) ≡ false → cells ≡ changed_at name f cells
no_cell name f [] h = refl
no_cell name f (x ∷ xs) h = go (slice_cmp nat_cmp name x.name) refl h (no_cell name f xs)
  where
    go : (o : Ordering) → slice_cmp nat_cmp name x.name ≡ o → is_of name (slice_get (x ∷ xs) (if is_gt o then suc (count_below name xs) else 0)) ≡ false
        → (is_of name (slice_get xs (count_below name xs)) ≡ false → xs ≡ changed_at name f xs)
        → x ∷ xs ≡ match_ordering o (x ∷ xs) (changed f x ∷ xs) (x ∷ changed_at name f xs)
    go Less is h ih = refl
    go Equal is h ih = absurd (true≢false (rw is at h))
    go Greater is h ih = ap (λ (ys : List Cell). x ∷ ys) (ih h)

-- ---- a member that stands in one place

none_some : (held : Held) → None ≡ Some held → ⊥
none_some held e = cc

same_some : (a b : Held) → Some a ≡ Some b → a ≡ b
same_some a b e = cc

-- what a change leaves where a member does not stand
abbrev Leaves : Member → (Held → Option Held) → Type 0
Leaves m f = (held : Held) → weight m held ≡ 0 → f held ≡ Some held

-- a cell that a member does not stand in is left
cell_left : (m : Member) (f : Held → Option Held) → Leaves m f → (x : Cell) (xs : List Cell) → places_of m (with_held x.name x.held (held_in xs)) ≤ places_of m (held_in xs) → changed f x ≡ x
cell_left m f leaves x xs few = go x.held refl few
  where
    go : (o : Option Held) → x.held ≡ o → places_of m (with_held x.name o (held_in xs)) ≤ places_of m (held_in xs) → changed f x ≡ x
    go None is few = ap (λ (h : Option Held). record x { held = h }) (ap (option_and_then f) is ∙ sym is)
    go (Some held) is few =
        let none : weight m held ≡ 0 = omega (arith, few) in
        ap (λ (h : Option Held). record x { held = h }) (ap (option_and_then f) is ∙ leaves held none ∙ sym is)

-- a cell adds no places, or some
more_places : (m : Member) (x : Cell) (xs : List Cell) → places_of m (held_in xs) ≤ places_of m (with_held x.name x.held (held_in xs))
more_places m x xs = go x.held
  where
    go : (o : Option Held) → places_of m (held_in xs) ≤ places_of m (with_held x.name o (held_in xs))
    go None = omega arith
    go (Some held) = omega arith

-- cells that a member does not stand in are left
all_left : (m : Member) (f : Held → Option Held) → Leaves m f → (cells : List Cell) → places_of m (held_in cells) ≡ 0 → map (changed f) cells ≡ cells
all_left m f leaves [] none = refl
all_left m f leaves (x ∷ xs) none =
    let more = more_places m x xs in
    let rest : places_of m (held_in xs) ≡ 0 = omega (arith, more, none) in
    (λ i. cell_left m f leaves x xs (omega (arith, none)) i ∷ all_left m f leaves xs rest i)

-- Where a member stands at a name, to change that cell is to change all, if no other is changed by it.
alone : (m : Member) (f g : Held → Option Held) → Leaves m g → (name : List ℕ) (held : Held) → 1 ≤ weight m held → f held ≡ g held
    → (cells : List Cell) → Ascend cells → places_of m (held_in cells) ≤ 1 → value_at name (held_in cells) ≡ Some held → changed_at name f cells ≡ map (changed g) cells
unfolding IsStrictlySortedBy
alone m f g leaves name held stands same [] sorted once is = absurd (none_some held is)
alone m f g leaves name held stands same (x ∷ xs) sorted once is =
    go (slice_cmp nat_cmp name x.name) refl x.held refl once is (λ few at. alone m f g leaves name held stands same xs sorted.1 few at)
  where
    go : (o : Ordering) → slice_cmp nat_cmp name x.name ≡ o → (h : Option Held) → x.held ≡ h
        → places_of m (with_held x.name h (held_in xs)) ≤ 1 → value_at name (with_held x.name h (held_in xs)) ≡ Some held
        → (places_of m (held_in xs) ≤ 1 → value_at name (held_in xs) ≡ Some held → changed_at name f xs ≡ map (changed g) xs)
        → match_ordering o (x ∷ xs) (changed f x ∷ xs) (x ∷ changed_at name f xs) ≡ changed g x ∷ map (changed g) xs
    go Less order None has once is ih = absurd (none_some held (sym (none_below name xs (below_more name x.name xs order sorted.0)) ∙ is))
    go Less order (Some other) has once is ih =
        absurd (none_some held (sym (none_below name xs (below_more name x.name xs order sorted.0)) ∙ rw order at is))
    go Equal order None has once is ih = absurd (none_some held (sym (none_below name xs (same_below name x.name xs order sorted.0)) ∙ is))
    go Equal order (Some other) has once is ih =
        let it : other ≡ held = same_some other held (rw order at is) in
        let weighs : weight m other ≡ weight m held = ap (weight m) it in
        let rest : places_of m (held_in xs) ≡ 0 = omega (arith, once, stands, weighs) in
        let here : changed f x ≡ changed g x =
        ap (λ (h : Option Held). record x { held = h }) (ap (option_and_then f) has ∙ ap f it ∙ same ∙ sym (ap g it) ∙ sym (ap (option_and_then g) has)) in
        (λ i. here i ∷ sym (all_left m g leaves xs rest) i)
    go Greater order None has once is ih =
        (λ i. sym (ap (λ (h : Option Held). record x { held = h }) (ap (option_and_then g) has ∙ sym has)) i ∷ ih once is i)
    go Greater order (Some other) has once is ih =
        let found : value_at name (held_in xs) ≡ Some held = rw order at is in
        let more = has_places m name held (held_in xs) found in
        let none : weight m other ≡ 0 = omega (arith, once, stands, more) in
        let here : changed g x ≡ x = ap (λ (h : Option Held). record x { held = h }) (ap (option_and_then g) has ∙ leaves other none ∙ sym has) in
        (λ i. sym here i ∷ ih (omega (arith, once)) found i)

-- what is left as it was is not changed
unchanged : (name : List ℕ) (f : Held → Option Held) (cells : List Cell) → option_and_then f (value_at name (held_in cells)) ≡ value_at name (held_in cells) → changed_at name f cells ≡ cells
unchanged name f [] same = refl
unchanged name f (x ∷ xs) same = go (slice_cmp nat_cmp name x.name) refl x.held refl same (unchanged name f xs)
  where
    go : (o : Ordering) → slice_cmp nat_cmp name x.name ≡ o → (h : Option Held) → x.held ≡ h
        → option_and_then f (value_at name (with_held x.name h (held_in xs))) ≡ value_at name (with_held x.name h (held_in xs))
        → (option_and_then f (value_at name (held_in xs)) ≡ value_at name (held_in xs) → changed_at name f xs ≡ xs)
        → match_ordering o (x ∷ xs) (changed f x ∷ xs) (x ∷ changed_at name f xs) ≡ x ∷ xs
    go Less order h has same ih = refl
    go Equal order None has same ih = ap (λ (h : Option Held). record x { held = h } ∷ xs) (ap (option_and_then f) has ∙ sym has)
    go Equal order (Some other) has same ih = ap (λ (h : Option Held). record x { held = h } ∷ xs) (ap (option_and_then f) has ∙ (rw order at same) ∙ sym has)
    go Greater order None has same ih = ap (λ (ys : List Cell). x ∷ ys) (ih same)
    go Greater order (Some other) has same ih = ap (λ (ys : List Cell). x ∷ ys) (ih (rw order at same))

-- ---- leaving a name

is_none : (b : Bool) → one b ≡ 0 → b ≡ false
is_none false h = refl
is_none true h = absurd (omega arith)

-- a release leaves what the member does not hold
released_leaves : (m : Member) → Leaves m (released m)
released_leaves m held none =
    let other : same_member m held.holder ≡ false = is_none (same_member m held.holder) (omega (arith, none)) in
    rw other refl

-- and leaving a wait leaves what the member does not wait for
withdrawn_leaves : (m : Member) → Leaves m (withdrawn m)
withdrawn_leaves m held none =
    let other : is_member m held.waiter ≡ false = is_none (is_member m held.waiter) (omega (arith, none)) in
    rw other refl

module _ (m : Member) (name : List ℕ) (cells : List Cell) (sound : IsSound cells) where
  -- a holder that leaves a name releases all that it holds
  holder_leaves : (held : Held) → value_at name (held_in cells) ≡ Some held → same_member m held.holder ≡ true → changed_at name (left_by m) cells ≡ map (changed (released m)) cells
  holder_leaves held at is =
      let one_is : one (same_member m held.holder) ≡ 1 = ap one is in
      let same : left_by m held ≡ released m held = rw is refl in
      alone m (left_by m) (released m) (released_leaves m) name held (omega (arith, one_is)) same cells sound.ordered (sound.once m) at

  -- a waiter that leaves a name leaves every wait
  waiter_leaves : (held : Held) → value_at name (held_in cells) ≡ Some held → is_member m held.waiter ≡ true → changed_at name (left_by m) cells ≡ map (changed (withdrawn m)) cells
  waiter_leaves held at is =
      let one_is : one (is_member m held.waiter) ≡ 1 = ap one is in
      let places = has_places m name held (held_in cells) at in
      let few = sound.once m in
      let other : same_member m held.holder ≡ false = is_none (same_member m held.holder) (omega (arith, one_is, places, few)) in
      let same : left_by m held ≡ withdrawn m held = rw other refl in
      alone m (left_by m) (withdrawn m) (withdrawn_leaves m) name held (omega (arith, one_is)) same cells sound.ordered (sound.once m) at

  -- who is neither changes nothing
  neither_leaves : (held : Held) → value_at name (held_in cells) ≡ Some held → same_member m held.holder ≡ false → is_member m held.waiter ≡ false → changed_at name (left_by m) cells ≡ cells
  neither_leaves held at holder waiter =
      let same : left_by m held ≡ Some held = rw (holder, waiter) refl in
      unchanged name (left_by m) cells (ap (option_and_then (left_by m)) at ∙ same ∙ sym at)

  nobody_leaves : value_at name (held_in cells) ≡ None → changed_at name (left_by m) cells ≡ cells
  nobody_leaves at = unchanged name (left_by m) cells (ap (option_and_then (left_by m)) at ∙ sym at)

  -- cells stay sound after a member left a name
  pub IsSound-left : IsSound (changed_at name (left_by m) cells)
  IsSound-left = go (value_at name (held_in cells)) refl
    where
      by : (held : Held) → value_at name (held_in cells) ≡ Some held → (h w : Bool) → same_member m held.holder ≡ h → is_member m held.waiter ≡ w → IsSound (changed_at name (left_by m) cells)
      by held at true w holder waiter = subst IsSound (sym (holder_leaves held at holder)) (IsSound-released m cells sound)
      by held at false true holder waiter = subst IsSound (sym (waiter_leaves held at waiter)) (IsSound-withdrawn m cells sound)
      by held at false false holder waiter = subst IsSound (sym (neither_leaves held at holder waiter)) sound

      go : (o : Option Held) → value_at name (held_in cells) ≡ o → IsSound (changed_at name (left_by m) cells)
      go None at = subst IsSound (sym (nobody_leaves at)) sound
      go (Some held) at = by held at (same_member m held.holder) (is_member m held.waiter) refl refl

  -- the names that are held, after their holder left one
  pub held_left : holder_of name (held_in cells) ≡ Some m → held_in (changed_at name (left_by m) cells) ≡ after_release m (held_in cells)
  held_left = go (value_at name (held_in cells)) refl
    where
      go : (o : Option Held) → value_at name (held_in cells) ≡ o → option_map (λ (held : Held). held.holder) o ≡ Some m → held_in (changed_at name (left_by m) cells) ≡ after_release m (held_in cells)
      go None at is = cc
      go (Some held) at is = ap held_in (holder_leaves held at (there m held.holder is)) ∙ held_in-changed (released m) cells

  -- and after their waiter left one
  pub awaited_left : waiter_of name (held_in cells) ≡ Some m → held_in (changed_at name (left_by m) cells) ≡ after_withdraw m (held_in cells)
  awaited_left = go (value_at name (held_in cells)) refl
    where
      go : (o : Option Held) → value_at name (held_in cells) ≡ o → option_and_then (λ (held : Held). held.waiter) o ≡ Some m → held_in (changed_at name (left_by m) cells) ≡ after_withdraw m (held_in cells)
      go None at is = cc
      go (Some held) at is = ap held_in (waiter_leaves held at (ap (is_member m) is ∙ member_itself m)) ∙ held_in-changed (withdrawn m) cells

  -- they stay where a member left that is neither
  pub other_left : holder_of name (held_in cells) ≢ Some m → waiter_of name (held_in cells) ≢ Some m → held_in (changed_at name (left_by m) cells) ≡ held_in cells
  other_left = go (value_at name (held_in cells)) refl
    where
      go : (o : Option Held) → value_at name (held_in cells) ≡ o → option_map (λ (held : Held). held.holder) o ≢ Some m → option_and_then (λ (held : Held). held.waiter) o ≢ Some m
          → held_in (changed_at name (left_by m) cells) ≡ held_in cells
      go None at holder waiter = ap held_in (nobody_leaves at)
      go (Some held) at holder waiter = ap held_in (neither_leaves held at (another m held.holder holder) (no_member m held.waiter waiter))
