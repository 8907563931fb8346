-- Laws of the definitions, each the contract of a function of the module `laws`.
use Rattle.std.specs.Prelude.{◌≡◌, ℕ, ◌+◌, ◌<◌, ◌≤◌, List, [], ◌∷◌, ◌++◌, length, Option, Some, None, Result, Ok, Err}
use Rattle.crossbeam_queue.specs.Fifo.{Held}
use Rattle.ready_queue.specs.Names.{Name, under}
use Rattle.ready_queue.specs.Bags.{times, InOrder}
use Rattle.ready_queue.specs.Records.{all_put, all_taken, put_by, taken_by, tickets, keepers, IsWhole}
use Rattle.ready_queue.specs.History.{Put, IsMoment}
use Rattle.ready_queue.specs.Steps.{PutTells, TakeTells}
use Rattle.ready_queue.specs.House.{StaysAtPut, StaysAtTake, StaysAtSplit, StaysAtJoin, HeldAt, OnlyTaker, OnlyPutter, Leads}
use Rattle.ready_queue.specs.declared.record.Record.{Record}

-- At every moment, what any pass took of any name was put under that name, and is taken in that order.
abbrev pub TakenInOrder : Type 0
TakenInOrder =
    (rs : List Record) (queued : List Put) (moment : IsMoment rs queued) (taker putter : Name)
    → InOrder (under putter (taken_by taker (rs ++ moment.others))) (put_by putter (rs ++ moment.others))

-- At every moment, no ticket was taken more often than it was put.
abbrev pub NoneTakenTwice : Type 0
NoneTakenTwice =
    (rs : List Record) (queued : List Put) (moment : IsMoment rs queued) (ticket : ℕ)
    → times ticket (all_taken (rs ++ moment.others)) ≤ times ticket (all_put (rs ++ moment.others))

-- Of the only pass that there is, the queue holds in order what it put and has not taken.
abbrev pub AloneInOrder : Type 0
AloneInOrder =
    (own : Record) (queued : List Put) → IsWhole (own ∷ []) → IsMoment (own ∷ []) queued
    → own.put ≡ tickets own.taken ++ tickets queued

-- A put is accepted where less is left than there is room for, and refused where as much is left.
abbrev pub PutFits : ℕ → ℕ → ℕ → Result (Unit {0}) ℕ → Type 0
PutFits capacity puts takes (Ok done) = puts < takes + capacity
PutFits capacity puts takes (Err back) = puts ≡ takes + capacity

-- So it is with each put while no other pass is out.
abbrev pub WholePuts : Type 0
WholePuts =
    (capacity ticket : ℕ) (v w : List Record) (result : Result (Unit {0}) ℕ)
    → IsWhole v → PutTells capacity v ticket result w
    → PutFits capacity (length (all_put v)) (length (all_taken v)) result

-- A ticket is taken where one is left, and none is found where none is left.
abbrev pub TakeFits : ℕ → ℕ → Option ℕ → Type 0
TakeFits puts takes (Some ticket) = takes < puts
TakeFits puts takes None = puts ≡ takes

-- So it is with each take while no other pass is out.
abbrev pub WholeTakes : Type 0
WholeTakes =
    (v w : List Record) (result : Option ℕ)
    → IsWhole v → TakeTells v result w
    → TakeFits (length (all_put v)) (length (all_taken v)) result

-- Who alone takes finds no ticket only where it took at least as many as it put, however many other passes are out.
abbrev pub TakerKnows : Type 0
TakerKnows =
    (name : Name) (v : List Record) → 0 < keepers name v → HeldAt (OnlyTaker name) v []
    → length (all_put v) ≤ length (all_taken v)

-- Who alone puts is refused only where what it put is at least what it took and the room that the queue has.
abbrev pub PutterKnows : Type 0
PutterKnows =
    (name : Name) (capacity : ℕ) (v : List Record) → 0 < keepers name v → Held capacity (HeldAt (OnlyPutter name) v)
    → length (all_taken v) + capacity ≤ length (all_put v)

-- That only one takes stays at each step of each pass but at the takes of others.
abbrev pub TakerStays : Type 0
TakerStays =
    (name : Name) (v : List Record)
    → ((capacity ticket : ℕ) → StaysAtPut (OnlyTaker name) capacity v ticket)
    × (Leads name v → StaysAtTake (OnlyTaker name) v)
    × StaysAtSplit (OnlyTaker name) v
    × ((w : List Record) → StaysAtJoin (OnlyTaker name) v w)

-- That only one puts stays at each step of each pass but at the puts of others.
abbrev pub PutterStays : Type 0
PutterStays =
    (name : Name) (v : List Record)
    → (Leads name v → (capacity ticket : ℕ) → StaysAtPut (OnlyPutter name) capacity v ticket)
    × StaysAtTake (OnlyPutter name) v
    × StaysAtSplit (OnlyPutter name) v
    × ((w : List Record) → StaysAtJoin (OnlyPutter name) v w)
