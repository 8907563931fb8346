-- What a clerk may do on a board, whether all is done, and whether nothing can go on.
use Rattle.std.specs.Prelude.{◌&&◌, ◌++◌, Bool, true, false, not, List, [], ◌∷◌, length, map, filter, slice_get, Option, Ok, Err}
use Rattle.std.specs.List.{list_all, list_any}
use Rattle.plan_values.specs.Words.{Board, Event, LegState, Plan, board_jobs, board_legs}
use Rattle.board_decisions.specs.Derived.{is_closed}
use Rattle.board_decisions.specs.Places.{numbers}
use Rattle.status_table.specs.Row.{Row, row}

-- The events that a clerk may report: Close, Open, Judge, Drop and Ask, in this order, each of every number.
abbrev pub clerk_events : Board → List Event
clerk_events b =
    map Event.Close (numbers (length b.runs)) ++ (map Event.Open (numbers (length b.runs))
    ++ (map Event.Judge (numbers (length (board_jobs b)))
    ++ (map Event.Drop (numbers (length (board_legs b))) ++ map Event.Ask (numbers (length (board_legs b))))))

-- whether a row is no refusal
abbrev pub is_accepted : Row → Bool
is_accepted (Ok done) = true
is_accepted (Err refusal) = false

-- whether an event is accepted. It is none that asks who the worker is, so worker 0 stands for each.
abbrev pub accepts : Plan → Board → Event → Bool
accepts p b e = is_accepted (row p b 0 e)

-- Those of the clerk's events that are accepted.
abbrev pub moves : Plan → Board → List Event
moves p b = filter (accepts p b) (clerk_events b)

-- The first of them, if there is one.
abbrev pub first_move : Plan → Board → Option Event
first_move p b = slice_get (moves p b) 0

-- Every run is Closed.
abbrev pub finished : Board → Bool
finished b = list_all (λ run. is_closed run.state) b.runs

-- a leg that has a worker, or may be taken by one
abbrev pub is_active : LegState → Bool
is_active LegState.Fresh = false
is_active LegState.Waiting = false
is_active LegState.Admitted = true
is_active (LegState.Running worker in_call) = true
is_active (LegState.Ended result tolerated) = false

-- whether there is none
abbrev pub is_none_left : List Event → Bool
is_none_left [] = true
is_none_left (e ∷ es) = false

-- Not all runs are Closed, and yet there is nothing that a clerk may do and no leg for a worker.
abbrev pub stalled : Plan → Board → Bool
stalled p b =
    not (finished b)
    && (is_none_left (moves p b) && not (list_any (λ leg. is_active leg.state) (board_legs b)))
