-- The events of a clerk by their kinds.
use Rattle.std.specs.Prelude.{ℕ, List, map}
use Rattle.plan_values.specs.Words.{Event}
use Rattle.board_decisions.specs.Places.{numbers}
use Rattle.status_table.specs.declared.moves.MoveKind.{MoveKind}

-- the event of a kind, of a run, a job or a leg with a number
abbrev pub event_of : MoveKind → ℕ → Event
event_of MoveKind.Close n = Event.Close n
event_of MoveKind.Open n = Event.Open n
event_of MoveKind.Judge n = Event.Judge n
event_of MoveKind.Drop n = Event.Drop n
event_of MoveKind.Ask n = Event.Ask n

-- those of each number below n
abbrev pub events_of : MoveKind → ℕ → List Event
events_of k n = map (event_of k) (numbers n)
