-- What an event does to a board with its groups, and what leads back from there.
use Rattle.std.specs.Prelude.{◌≡◌, ◌≤◌, ◌+◌, ℕ, IfOk, OnOk, Option, None, Result}
use Rattle.status_table.specs.Words.{Answers, Content, Event, Leads, Reply, Row, after_event, answer_of, content, done_of, event_row, Board}
use Rattle.board_counters.specs.Track.{Track}
use Rattle.flat_board.specs.Index.{Goes}
use Rattle.flat_board.specs.Undo.{RestoresGroups, board_before, cell_of}
use Rattle.flat_board.specs.declared.grouped_board.GroupedBoard.{GroupedBoard}
use Rattle.flat_board.specs.declared.undo.CellBack.{CellBack}
use Rattle.flat_board.specs.declared.undo.Undo.{Undo}
use Rattle.status_table.specs.declared.fault.EventFault.{EventFault}

-- An event is answered as its row; the plan and the groups stay, and the changes lead back to the board to which they led.
pub record Answered (old new : GroupedBoard) (worker : ℕ) (e : Event) (result : Result Reply EventFault) : Type 0 where
  pub plan : new.state.plan ≡ old.state.plan
  pub answers : Answers (event_row old.state.plan old.state.board worker e) old.state.board result new.state.board
  pub groups : new.groups ≡ old.groups
  pub back : OnOk result (new.state.back ≡ old.state.back)

-- A change of the board takes room for one change, and leads back as far as those before it.
pub record Turned (old new : Track) (to : Board) : Type 0 where
  pub plan : new.plan ≡ old.plan
  pub board : new.board ≡ to
  pub back : new.back ≡ old.back
  pub room : old.room ≤ new.room + 1

-- A member that enters a group or leaves it is answered as this row, and the groups go where they are to; what was held
-- of the name leads back to them.
pub record Moved (old new : GroupedBoard) (row : Row) (to : Content)
    (result : Result (Reply × Option CellBack) EventFault) : Type 0 where
  pub plan : new.state.plan ≡ old.state.plan
  pub answers : Answers row old.state.board (answer_of result) new.state.board
  pub groups : Goes (answer_of result) old.groups to new.groups
  pub back : OnOk result (new.state.back ≡ old.state.back)
  pub cell : IfOk result (λ both. RestoresGroups both.1 old new)

-- So it is with an event by which a member does.
abbrev pub MovedBy : GroupedBoard → GroupedBoard → ℕ → Event → Result (Reply × Option CellBack) EventFault → Type 0
MovedBy old new worker e =
    Moved old new (event_row old.state.plan old.state.board worker e)
    (after_event old.state.plan old.state.board (content old.groups) e)

-- An event whose reply nobody asks for leads to its row's board; the plan and the groups stay, and what takes it back is
-- given.
pub record Led (old new : GroupedBoard) (worker : ℕ) (e : Event) (result : Result Undo EventFault) : Type 0 where
  pub plan : new.state.plan ≡ old.state.plan
  pub leads : Leads (event_row old.state.plan old.state.board worker e) old.state.board (done_of result) new.state.board
  pub groups : new.groups ≡ old.groups
  pub back : IfOk result (λ undo. board_before undo new.state.board ≡ old.state.board)
  pub cell : IfOk result (λ undo. cell_of undo ≡ None)
