-- What takes an entry back.
use Rattle.std.specs.Prelude.{◌≡◌, ◌≢◌, ◌⊎◌, ℕ, List, Option, Some, None}
use Rattle.status_table.specs.Words.{Ascends, Board, Content, Held, InPlay, KeptAsShown, Known, Member, Plan, Standing, content, fold, holder_of, left, put_known, value_at, waiter_of}
use Rattle.flat_board.specs.Names.{NamesKnown, group_at}
use Rattle.flat_board.specs.declared.grouped_board.GroupedBoard.{GroupedBoard}
use Rattle.flat_board.specs.declared.undo.CellBack.{CellBack}
use Rattle.flat_board.specs.declared.undo.Undo.{Undo}
use Rattle.board_counters.specs.Undo.{only_before, undone}

-- the board before an entry: its changes are taken back, the last one first
abbrev pub board_before : Undo → Board → Board
board_before (Undo.Only only) b = only_before only b
board_before (Undo.Entry back) b = undone back.value.changes.items b

-- what was held before it of the name that it asked for, if it asked for one
abbrev pub cell_of : Undo → Option CellBack
cell_of (Undo.Only only) = None
cell_of (Undo.Entry back) = back.value.cell

-- a name, if there is one, is held again as it was
abbrev pub name_put_back : Option (List ℕ) → Option Held → Known → Known
name_put_back None held known = known
name_put_back (Some name) held known = put_known (fold name) held known

-- The groups before an entry: the name stands on the board, as the group of who entered it or left it.
abbrev pub groups_put_back : Option CellBack → Board → Known → Known
groups_put_back None b known = known
groups_put_back (Some cell) b known = name_put_back (group_at b cell.who) cell.held known

-- An undo fits a board of a plan where the board before is in play; and it shows the groups before, and its
-- names are known to them, whatever groups know those of this board and are shown by it.
pub record Fits (undo : Undo) (p : Plan) (b : Board) : Type 0 where
  pub in_play : InPlay p (board_before undo b)
  pub kept : (known : Known) → Ascends known → KeptAsShown (content known) b → NamesKnown known b
      → KeptAsShown (content (groups_put_back (cell_of undo) b known)) (board_before undo b)
  pub names : (known : Known) → Ascends known → KeptAsShown (content known) b → NamesKnown known b
      → NamesKnown (groups_put_back (cell_of undo) b known) (board_before undo b)

-- ---- what an entry asks of the groups

-- a member holds a name or waits for it
abbrev pub IsAt : Member → List ℕ → Content → Type 0
IsAt m name groups = (holder_of name groups ≡ Some m) ⊎ (waiter_of name groups ≡ Some m)

-- No name changed but one, which a member left that was in that group on the board, or entered. So was it held.
pub record NameChanged (cell : CellBack) (b : Board) (was now : Content) : Type 0 where
  pub name : List ℕ
  pub of_who : (group_at b cell.who ≡ Some name) ⊎ IsAt cell.who name now
  pub held : value_at name was ≡ cell.held
  pub others : (q : List ℕ) → q ≢ name → value_at q now ≡ value_at q was

-- what leads back to the groups before: nothing where none changed
abbrev pub LeadsBack : Option CellBack → Board → Content → Content → Type 0
LeadsBack None b was now = now ≡ was
LeadsBack (Some cell) b was now = NameChanged cell b was now

-- so it is from a board with its groups to the one before
abbrev pub RestoresGroups : Option CellBack → GroupedBoard → GroupedBoard → Type 0
RestoresGroups cell old new = LeadsBack cell old.state.board (content old.groups) (content new.groups)

-- A member that stood so to its group left that, and this leads back.
pub record Leaves (cell : Option CellBack) (b : Board) (m : Member) (s : Standing) (was now : Content) : Type 0 where
  pub to : now ≡ left was m s
  pub back : LeadsBack cell b was now
