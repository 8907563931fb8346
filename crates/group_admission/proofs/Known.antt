-- The names that are known, after one was written or all were changed.
use Rattle.std.proofs.Common.{◌≡◌, ◌≢◌, ℕ, suc, Bool, true, false, List, [], ◌∷◌, map, slice_get, if◌then◌else◌, cond, Option, Some, None, is_some, Ordering, Less, Equal, Greater, nat_cmp, is_eq, refl, sym, ap, subst, ◌∙◌}
use Rattle.std.proofs.lemmas.Bool.{false≢true, true≢false}
use Rattle.std.specs.Cmp.Lexicographic.{slice_cmp}
use Rattle.std.specs.List.Sorted.{IsStrictlySortedBy}
use Rattle.std.specs.Ordering.{match_ordering, is_gt}
use Rattle.flow_model.specs.Mapping.{value_at, with_pair}
use Rattle.flow_model.proofs.Lookups.{found_other, found_same, name_itself, one_name}
use Rattle.group_admission.proofs.Kept.{IsBelowAll, below_more}
use Rattle.group_admission.proofs.Written.{set_here-cons}
use Rattle.group_admission.specs.Cells.{Ascend, IsSound, changed, changed_at, count_below, is_of, known_in, put_at, set_here, with_cell}
use Rattle.group_admission.specs.Content.{EachOnce}
use Rattle.group_admission.specs.Known.{Grows, Known, content, is_known, put_known}
use Rattle.group_admission.specs.declared.cell.Cell.{Cell}
use Rattle.group_admission.specs.declared.held.Held.{Held}

-- ---- a name is written

-- the names that are known, after a cell was written
pub known_in_with_cell : (name : List ℕ) (held : Held) (cells : List Cell) → known_in (with_cell name held cells) ≡ with_pair name (Some held) (known_in cells)
known_in_with_cell name held [] = refl
known_in_with_cell name held (x ∷ xs) = go (slice_cmp nat_cmp name x.name) (known_in_with_cell name held xs)
  where
    go : (o : Ordering) → known_in (with_cell name held xs) ≡ with_pair name (Some held) (known_in xs)
        → known_in (match_ordering o (record { name = name; held = Some held } ∷ x ∷ xs) (record x { held = Some held } ∷ xs) (x ∷ with_cell name held xs))
        ≡ match_ordering o ((name, Some held) ∷ known_in (x ∷ xs)) ((x.name, Some held) ∷ known_in xs) ((x.name, x.held) ∷ with_pair name (Some held) (known_in xs))
    go Less ih = refl
    go Equal ih = refl
    go Greater ih = ap (λ (ps : Known). (x.name, x.held) ∷ ps) ih

-- a name is another, or it is not
pub either : (q name : List ℕ) (P : Type 0) → (q ≡ name → P) → (q ≢ name → P) → P
either q name P same other = by (slice_cmp nat_cmp q name) refl
  where
    unlike : (o : Ordering) → slice_cmp nat_cmp q name ≡ o → is_eq o ≡ false → q ≢ name
    unlike o is differs e = false≢true (sym differs ∙ ap is_eq (sym is) ∙ ap (λ (n : List ℕ). is_eq (slice_cmp nat_cmp q n)) (sym e) ∙ ap is_eq (name_itself q))

    by : (o : Ordering) → slice_cmp nat_cmp q name ≡ o → P
    by Less is = other (unlike Less is refl)
    by Equal is = same (one_name q name is)
    by Greater is = other (unlike Greater is refl)

-- the name that is written becomes known
pub grows_with_pair : (name : List ℕ) (held : Option Held) (known : Known) → Grows name known (with_pair name held known)
grows_with_pair name held known = record { kept = kept; others = others }
  where
    others : (q : List ℕ) → q ≢ name → is_known q (with_pair name held known) ≡ is_known q known
    others q differs = ap (λ (o : Option (Option Held)). is_some o) (found_other q name held known differs)

    kept : (q : List ℕ) → is_known q known ≡ true → is_known q (with_pair name held known) ≡ true
    kept q h = either q name (is_known q (with_pair name held known) ≡ true)
        (λ same. ap (λ (n : List ℕ). is_known n (with_pair name held known)) same ∙ ap (λ (o : Option (Option Held)). is_some o) (found_same name held known))
        (λ differs. others q differs ∙ h)

-- ---- a name is put back

-- the cell at a name's place, where it is that name's, is the one to put back
pub put_cell : (name : List ℕ) (held : Option Held) (cells : List Cell) → is_of name (slice_get cells (count_below name cells)) ≡ true → set_here cells (count_below name cells) held ≡ put_at name held cells
put_cell name held [] h = absurd (false≢true h)
put_cell name held (x ∷ xs) h = go (slice_cmp nat_cmp name x.name) refl h (put_cell name held xs)
  where
    go : (o : Ordering) → slice_cmp nat_cmp name x.name ≡ o → is_of name (slice_get (x ∷ xs) (if is_gt o then suc (count_below name xs) else 0)) ≡ true
        → (is_of name (slice_get xs (count_below name xs)) ≡ true → set_here xs (count_below name xs) held ≡ put_at name held xs)
        → set_here (x ∷ xs) (if is_gt o then suc (count_below name xs) else 0) held ≡ match_ordering o (x ∷ xs) (record x { held = held } ∷ xs) (x ∷ put_at name held xs)
    go Less is h ih = absurd (false≢true (rw is at h))
    go Equal is h ih = refl
    go Greater is h ih = set_here-cons x xs (count_below name xs) held ∙ ap (λ (ys : List Cell). x ∷ ys) (ih h)

-- a name that has no cell is not put back
pub put_none : (name : List ℕ) (held : Option Held) (cells : List Cell) → is_of name (slice_get cells (count_below name cells)) ≡ false → cells ≡ put_at name held cells
put_none name held [] h = refl
put_none name held (x ∷ xs) h = go (slice_cmp nat_cmp name x.name) refl h (put_none name held xs)
  where
    go : (o : Ordering) → slice_cmp nat_cmp name x.name ≡ o → is_of name (slice_get (x ∷ xs) (if is_gt o then suc (count_below name xs) else 0)) ≡ false
        → (is_of name (slice_get xs (count_below name xs)) ≡ false → xs ≡ put_at name held xs)
        → x ∷ xs ≡ match_ordering o (x ∷ xs) (record x { held = held } ∷ xs) (x ∷ put_at name held xs)
    go Less is h ih = refl
    go Equal is h ih = absurd (true≢false (rw is at h))
    go Greater is h ih = ap (λ (ys : List Cell). x ∷ ys) (ih h)

-- a name that is below those of all cells is not known
not_known : (name : List ℕ) (cells : List Cell) → IsBelowAll name cells → value_at name (known_in cells) ≡ None
not_known name [] h = refl
not_known name (x ∷ xs) h = rw h.0 (not_known name xs h.1)

-- the names that are known, after one was put back
pub known_in_put_at : (name : List ℕ) (held : Option Held) (cells : List Cell) → Ascend cells → known_in (put_at name held cells) ≡ put_known name held (known_in cells)
unfolding IsStrictlySortedBy
known_in_put_at name held [] sorted = refl
known_in_put_at name held (x ∷ xs) sorted = go (slice_cmp nat_cmp name x.name) refl (known_in_put_at name held xs sorted.1)
  where
    behind : (b : Bool) → known_in (put_at name held xs) ≡ (if b then with_pair name held (known_in xs) else known_in xs)
        → (x.name, x.held) ∷ known_in (put_at name held xs) ≡ (if b then (x.name, x.held) ∷ with_pair name held (known_in xs) else (x.name, x.held) ∷ known_in xs)
    behind true ih = ap (λ (ps : Known). (x.name, x.held) ∷ ps) ih
    behind false ih = ap (λ (ps : Known). (x.name, x.held) ∷ ps) ih

    go : (o : Ordering) → slice_cmp nat_cmp name x.name ≡ o → known_in (put_at name held xs) ≡ put_known name held (known_in xs)
        → known_in (match_ordering o (x ∷ xs) (record x { held = held } ∷ xs) (x ∷ put_at name held xs))
        ≡ (if is_some (cond (is_eq o) (Some x.held) (value_at name (known_in xs)))
        then match_ordering o ((name, held) ∷ known_in (x ∷ xs)) ((x.name, held) ∷ known_in xs) ((x.name, x.held) ∷ with_pair name held (known_in xs))
        else known_in (x ∷ xs))
    go Less is ih = rw (not_known name xs (below_more name x.name xs is sorted.0)) refl
    go Equal is ih = refl
    go Greater is ih = behind (is_known name (known_in xs)) ih

names_put : (name : List ℕ) (held : Option Held) (cells : List Cell) → map (λ (cell : Cell). cell.name) (put_at name held cells) ≡ map (λ (cell : Cell). cell.name) cells
names_put name held [] = refl
names_put name held (x ∷ xs) = go (slice_cmp nat_cmp name x.name) (names_put name held xs)
  where
    go : (o : Ordering) → map (λ (cell : Cell). cell.name) (put_at name held xs) ≡ map (λ (cell : Cell). cell.name) xs
        → map (λ (cell : Cell). cell.name) (match_ordering o (x ∷ xs) (record x { held = held } ∷ xs) (x ∷ put_at name held xs)) ≡ map (λ (cell : Cell). cell.name) (x ∷ xs)
    go Less ih = refl
    go Equal ih = refl
    go Greater ih = ap (λ (names : List (List ℕ)). x.name ∷ names) ih

-- cells stay sound after a name was put back, where no member stands in two places then
pub IsSound-put : (name : List ℕ) (held : Option Held) (cells : List Cell) → IsSound cells → EachOnce (content (put_known name held (known_in cells))) → IsSound (put_at name held cells)
IsSound-put name held cells sound once = record {
  ordered = subst (IsStrictlySortedBy (slice_cmp nat_cmp)) (sym (names_put name held cells)) sound.ordered;
  once = subst (λ (known : Known). EachOnce (content known)) (sym (known_in_put_at name held cells sound.ordered)) once;
}

-- ---- leaving changes no known name

module _ (q : List ℕ) (f : Held → Option Held) where
  pub known_changed : (cells : List Cell) → is_known q (known_in (map (changed f) cells)) ≡ is_known q (known_in cells)
  known_changed [] = refl
  known_changed (x ∷ xs) = go (is_eq (slice_cmp nat_cmp q x.name)) (known_changed xs)
    where
      go : (b : Bool) → is_known q (known_in (map (changed f) xs)) ≡ is_known q (known_in xs)
          → is_some (cond b (Some (changed f x).held) (value_at q (known_in (map (changed f) xs)))) ≡ is_some (cond b (Some x.held) (value_at q (known_in xs)))
      go true ih = refl
      go false ih = ih

  pub known_changed_at : (name : List ℕ) (cells : List Cell) → is_known q (known_in (changed_at name f cells)) ≡ is_known q (known_in cells)
  known_changed_at name [] = refl
  known_changed_at name (x ∷ xs) = go (slice_cmp nat_cmp name x.name) (known_changed_at name xs)
    where
      here : (b : Bool) → is_some (cond b (Some (changed f x).held) (value_at q (known_in xs))) ≡ is_some (cond b (Some x.held) (value_at q (known_in xs)))
      here true = refl
      here false = refl

      behind : (b : Bool) → is_known q (known_in (changed_at name f xs)) ≡ is_known q (known_in xs)
          → is_some (cond b (Some x.held) (value_at q (known_in (changed_at name f xs)))) ≡ is_some (cond b (Some x.held) (value_at q (known_in xs)))
      behind true ih = refl
      behind false ih = ih

      go : (o : Ordering) → is_known q (known_in (changed_at name f xs)) ≡ is_known q (known_in xs)
          → is_known q (known_in (match_ordering o (x ∷ xs) (changed f x ∷ xs) (x ∷ changed_at name f xs))) ≡ is_known q (known_in (x ∷ xs))
      go Less ih = refl
      go Equal ih = here (is_eq (slice_cmp nat_cmp q x.name))
      go Greater ih = behind (is_eq (slice_cmp nat_cmp q x.name)) ih
