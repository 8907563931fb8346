-- The index of groups beside a board: names as they stand on
-- the board, and the groups after what a member asks of them.
use Rattle.std.specs.Prelude.{◌≡◌, ℕ, true, List, Option, Some, None, Result, Ok, Err}
use Rattle.status_table.specs.Words.{Answers, Content, Entrance, Event, Known, Member, Reply, ValueFault, after_enter, after_event, content, event_row, is_known, without_reply}
use Rattle.flat_board.specs.Names.{IsName}
use Rattle.flat_board.specs.declared.grouped_board.GroupedBoard.{GroupedBoard}
use Rattle.status_table.specs.declared.fault.EventFault.{EventFault}

-- ---- names

-- the name of a group that is entered, if one is, is such as stands on a board
abbrev pub EntersNamed : Option Entrance → Type 0
EntersNamed None = Unit {0}
EntersNamed (Some group) = IsName group.name

-- the name of a group that is asked for is such as stands on a board, if one is named and there is no fault
abbrev pub AsksNamed : Result (Option Entrance) ValueFault → Type 0
AsksNamed (Ok group) = EntersNamed group
AsksNamed (Err f) = Unit {0}

-- ---- what the groups keep

-- the groups after a member entered one, or none
abbrev pub entered : Member → Option ℕ → Option Entrance → Content → Content
entered who own None groups = groups
entered who own (Some group) groups = after_enter group.name who own groups

-- Each name that was known is known still.
abbrev pub Keeps : Known → Known → Type 0
Keeps old new = (name : List ℕ) → is_known name old ≡ true → is_known name new ≡ true

-- The names that are held are so, and no name was forgotten.
pub record Turns (old : Known) (to : Content) (new : Known) : Type 0 where
  pub held : content new ≡ to
  pub known : Keeps old new

-- Where there is an answer the names that are held are so, and else all is as it was.
abbrev pub Goes : {T E : Type 0} → Result T E → Known → Content → Known → Type 0
Goes (Ok x) old to new = Turns old to new
Goes (Err f) old to new = new ≡ old

-- how many changes of a board an event makes at most: one that enters a group may note the end of who waited,
-- begin to wait, put out who waited, and stop the holder
abbrev pub most_changes : Event → ℕ
most_changes (Event.Open r) = 4
most_changes (Event.Judge j) = 1
most_changes (Event.Ask l) = 4
most_changes (Event.Drop l) = 3
most_changes (Event.Take l) = 1
most_changes (Event.Begin l) = 1
most_changes (Event.End l a) = 1
most_changes (Event.Finish l) = 3
most_changes (Event.Close r) = 2
most_changes (Event.Cancel r) = 1

-- An event that a worker from 0 to 15 reports is answered as its row, the plan stays, and the groups are
-- after it what the event asks of them.
pub record Follows (old new : GroupedBoard) (worker : ℕ) (e : Event)
    (result : Result Reply EventFault) : Type 0 where
  pub plan : new.state.plan ≡ old.state.plan
  pub answers : Answers (event_row old.state.plan old.state.board worker e)
      old.state.board result new.state.board
  pub groups : Goes result old.groups
      (after_event old.state.plan old.state.board (content old.groups) e) new.groups

-- An event follows its row, the plan and the groups, where nobody asks for the reply: some answer goes with it.
pub record FollowsUnasked (old new : GroupedBoard) (worker : ℕ) (e : Event)
    (result : Result (Unit {0}) EventFault) : Type 0 where
  pub answer : Result Reply EventFault
  pub follows : Follows old new worker e answer
  pub same : result ≡ without_reply answer
