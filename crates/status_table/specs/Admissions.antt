-- What the events of a board ask of the concurrency groups as they are kept by names: the map from each name
-- that is held to its holder and its waiter, which a board only shows.
use Rattle.std.specs.Prelude.{◌≡◌, ◌≢◌, ℕ, List, [], Option, Some, None, Result, Ok, Err}
use Rattle.plan_values.specs.Words.{Ascends, Board, Event, Member, Plan, ValueFault}
use Rattle.board_decisions.specs.declared.entrance.Entrance.{Entrance}
use Rattle.board_decisions.specs.Decisions.{run_entrance, leg_entrance}
use Rattle.board_decisions.specs.Place.{RunAt, LegAt, run_at, leg_at}
use Rattle.group_admission.specs.Content.{Content, holder_of, waiter_of, after_enter, after_release, after_withdraw}
use Rattle.status_table.specs.Groups.{Standing, apart, holding, waiting, run_standing, leg_standing, holder, waiter}
use Rattle.status_table.specs.Lawful.{Lawful}
use Rattle.status_table.specs.Row.{Row, row}

-- A board shows who holds each name, and who waits for it, as they are kept. An empty name is no group's.
pub record Shows (groups : Content) (b : Board) : Type 0 where
  pub holder : (name : List ℕ) → name ≢ [] → holder_of name groups ≡ holder b name
  pub waiter : (name : List ℕ) → name ≢ [] → waiter_of name groups ≡ waiter b name

-- The board that a row leads to, if it is accepted, shows the groups.
abbrev pub ShowsThen : Content → Row → Type 0
ShowsThen groups (Ok x) = Shows groups x.0
ShowsThen groups (Err refusal) = Unit {0}

-- What a run asks of the groups when it is opened: to enter its workflow's group under the name that the
-- group's text gives. Without a group, or where the text has no value, it asks nothing.
abbrev pub opened : Content → ℕ → Result (Option Entrance) ValueFault → Content
opened groups r (Ok None) = groups
opened groups r (Ok (Some group)) = after_enter group.name (Member.Run r) None groups
opened groups r (Err f) = groups

-- What the groups keep after a run entered is what the board shows after its Open.
abbrev pub OpensAsEntered : Type 0
OpensAsEntered =
    (p : Plan) (b : Board) (worker r : ℕ) (at : RunAt) (groups : Content)
    → Lawful p b → run_at p b r ≡ Some at → Shows groups b
    → ShowsThen (opened groups r (run_entrance at)) (row p b worker (Event.Open r))

-- What a leg of a run asks of the groups: to enter its job's group in the same way. Where its own run
-- holds the name, it gets no place.
abbrev pub asked : Content → ℕ → ℕ → Result (Option Entrance) ValueFault → Content
asked groups l own (Ok None) = groups
asked groups l own (Ok (Some group)) = after_enter group.name (Member.Leg l) (Some own) groups
asked groups l own (Err f) = groups

-- What the groups keep after a leg entered is what the board shows after its Ask.
abbrev pub AsksAsEntered : Type 0
AsksAsEntered =
    (p : Plan) (b : Board) (worker l : ℕ) (at : LegAt) (groups : Content)
    → Lawful p b → leg_at p b l ≡ Some at → Shows groups b
    → ShowsThen (asked groups l at.place.run (leg_entrance at)) (row p b worker (Event.Ask l))

-- What a member asks of the groups when it has ended: to release what it held, or to leave its wait.
abbrev pub left : Content → Member → Standing → Content
left groups m apart = groups
left groups m (holding name) = after_release m groups
left groups m (waiting name) = after_withdraw m groups

-- What the groups keep after a run left its group is what the board shows after its Close.
abbrev pub ClosesAsLeft : Type 0
ClosesAsLeft =
    (p : Plan) (b : Board) (worker r : ℕ) (at : RunAt) (groups : Content)
    → Ascends groups → Lawful p b → run_at p b r ≡ Some at → Shows groups b
    → ShowsThen (left groups (Member.Run r) (run_standing at.run)) (row p b worker (Event.Close r))

-- What they keep after a leg left its group is what the board shows after its Drop.
abbrev pub DropsAsLeft : Type 0
DropsAsLeft =
    (p : Plan) (b : Board) (worker l : ℕ) (at : LegAt) (groups : Content)
    → Ascends groups → Lawful p b → leg_at p b l ≡ Some at → Shows groups b
    → ShowsThen (left groups (Member.Leg l) (leg_standing at.leg)) (row p b worker (Event.Drop l))

-- And so after its Finish.
abbrev pub FinishesAsLeft : Type 0
FinishesAsLeft =
    (p : Plan) (b : Board) (worker l : ℕ) (at : LegAt) (groups : Content)
    → Ascends groups → Lawful p b → leg_at p b l ≡ Some at → Shows groups b
    → ShowsThen (left groups (Member.Leg l) (leg_standing at.leg)) (row p b worker (Event.Finish l))

-- An event asks nothing of the groups: what they keep the board shows after it as before.
abbrev pub StaysShown : Event → Type 0
StaysShown e =
    (p : Plan) (b : Board) (worker : ℕ) (groups : Content)
    → Shows groups b → ShowsThen groups (row p b worker e)
