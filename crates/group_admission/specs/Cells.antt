-- How names are kept: a cell for each name that was entered, in the order of the names.
use Rattle.std.specs.Prelude.{ℕ, suc, Bool, false, List, [], ◌∷◌, map, slice_get, slice_set, Option, Some, None, option_and_then, if◌then◌else◌}
use Rattle.std.specs.Ordering.{nat_cmp, match_ordering, is_eq, is_gt}
use Rattle.std.specs.Cmp.Lexicographic.{slice_cmp}
use Rattle.std.specs.List.Sorted.{IsStrictlySortedBy}
use Rattle.group_admission.specs.Content.{Content, EachOnce}
use Rattle.group_admission.specs.Known.{Known, content}
use Rattle.group_admission.specs.declared.cell.Cell.{Cell}
use Rattle.group_admission.specs.declared.held.Held.{Held}

-- The names that were entered.
abbrev pub known_in : List Cell → Known
known_in cells = map (λ cell. (cell.name, cell.held)) cells

-- The names that are held; a cell that nobody holds is as none.
abbrev pub held_in : List Cell → Content
held_in cells = content (known_in cells)

-- Each name is above those before it.
abbrev pub Ascend : List Cell → Type 0
Ascend cells = IsStrictlySortedBy (slice_cmp nat_cmp) (map (λ cell. cell.name) cells)

-- What each list of cells keeps: the names ascend, and no member stands in two places.
pub record IsSound (cells : List Cell) : Type 0 where
  pub ordered : Ascend cells
  pub once : EachOnce (held_in cells)

-- Whether a name is above that of the cell that may be there.
abbrev pub is_above : List ℕ → Option Cell → Bool
is_above name None = false
is_above name (Some cell) = is_gt (slice_cmp nat_cmp name cell.name)

-- Whether a name is that of the cell that may be there.
abbrev pub is_of : List ℕ → Option Cell → Bool
is_of name None = false
is_of name (Some cell) = is_eq (slice_cmp nat_cmp name cell.name)

-- Who holds a name, if the cell that may be there is that name's.
abbrev pub held_here : List ℕ → Option Cell → Option Held
held_here name None = None
held_here name (Some cell) = if is_eq (slice_cmp nat_cmp name cell.name) then cell.held else None

-- How many cells at the front have names below this one.
abbrev pub count_below : List ℕ → List Cell → ℕ
count_below name [] = 0
count_below name (cell ∷ cells) =
    if is_gt (slice_cmp nat_cmp name cell.name) then suc (count_below name cells) else 0

-- The cells where that at a place, if one is there, is held so.
abbrev pub set_there : List Cell → ℕ → Option Held → Option Cell → List Cell
set_there cells place held None = cells
set_there cells place held (Some cell) = slice_set cells place (record cell { held = held })

-- The cells where that at a place is held so.
abbrev pub set_here : List Cell → ℕ → Option Held → List Cell
set_here cells place held = set_there cells place held (slice_get cells place)

-- The cells where a name is held so, in a cell of its own if it had none.
abbrev pub with_cell : List ℕ → Held → List Cell → List Cell
with_cell name held [] = record { name = name; held = Some held } ∷ []
with_cell name held (cell ∷ cells) =
    match_ordering (slice_cmp nat_cmp name cell.name)
    (record { name = name; held = Some held } ∷ cell ∷ cells)
    (record cell { held = Some held } ∷ cells)
    (cell ∷ with_cell name held cells)

-- The cells where a name, if it has a cell, is held so, or by nobody.
abbrev pub put_at : List ℕ → Option Held → List Cell → List Cell
put_at name held [] = []
put_at name held (cell ∷ cells) =
    match_ordering (slice_cmp nat_cmp name cell.name)
    (cell ∷ cells)
    (record cell { held = held } ∷ cells)
    (cell ∷ put_at name held cells)

-- The cell, held as said of who held it.
abbrev pub changed : (Held → Option Held) → Cell → Cell
changed f cell = record cell { held = option_and_then f cell.held }

-- The cells where that at a place, if one is there, is held as said of who held it.
abbrev pub change_there : (Held → Option Held) → List Cell → ℕ → Option Cell → List Cell
change_there f cells place None = cells
change_there f cells place (Some cell) = slice_set cells place (changed f cell)

-- The cells where that at a place is held as said of who held it.
abbrev pub change_here : (Held → Option Held) → List Cell → ℕ → List Cell
change_here f cells place = change_there f cells place (slice_get cells place)

-- The cells where a name, if it has a cell, is held as said of who held it.
abbrev pub changed_at : List ℕ → (Held → Option Held) → List Cell → List Cell
changed_at name f [] = []
changed_at name f (cell ∷ cells) =
    match_ordering (slice_cmp nat_cmp name cell.name)
    (cell ∷ cells)
    (changed f cell ∷ cells)
    (cell ∷ changed_at name f cells)
