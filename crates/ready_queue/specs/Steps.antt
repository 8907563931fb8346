-- The six kinds of step of the queue's rule, each on the records under its one pass before (v) and after (w).
use Rattle.std.specs.Prelude.{◌≡◌, ℕ, ◌+◌, ◌<◌, ◌^◌, List, [], ◌∷◌, ◌++◌, length, Option, Some, None, Result, Ok, Err}
use Rattle.crossbeam_queue.specs.Fifo.{Held}
use Rattle.ready_queue.specs.Names.{Name}
use Rattle.ready_queue.specs.Records.{newcomer, AllInOrder}
use Rattle.ready_queue.specs.History.{Put, IsMoment, GoesWith}
use Rattle.ready_queue.specs.declared.record.Record.{Record}

-- ---- an accepted put

-- A ticket more that the pass itself put.
abbrev pub with_put : ℕ → List Record → List Record
with_put ticket [] = []
with_put ticket (own ∷ rest) = record own { put = own.put ++ ticket ∷ [] } ∷ rest

-- The ticket was put, at a moment at which the queue held fewer tickets than it has room for.
abbrev pub Puts : ℕ → List Record → ℕ → List Record → Type 0
Puts capacity v ticket w = (w ≡ with_put ticket v) × ((queued : List Put) × (length queued < capacity) × IsMoment v queued)

-- ---- a refused put

-- Nothing changed, and at one moment the queue held as many tickets as it has room for.
abbrev pub Refuses : ℕ → List Record → List Record → Type 0
Refuses capacity v w = (w ≡ v) × Held capacity (GoesWith v)

-- A put is accepted, or refused with the ticket handed back.
abbrev pub PutTells : ℕ → List Record → ℕ → Result (Unit {0}) ℕ → List Record → Type 0
PutTells capacity v ticket (Ok done) w = Puts capacity v ticket w
PutTells capacity v ticket (Err back) w = (back ≡ ticket) × Refuses capacity v w

-- ---- a take of a ticket

-- A ticket more that the pass itself took, of the pass of that name.
abbrev pub with_taken : ℕ → Name → List Record → List Record
with_taken ticket putter [] = []
with_taken ticket putter (own ∷ rest) = record own { taken = own.taken ++ (ticket, putter) ∷ [] } ∷ rest

-- The ticket was taken, at a moment at which it was the oldest in the queue, and each took of each in order.
abbrev pub Takes : List Record → ℕ → List Record → Type 0
Takes v ticket w =
    (putter : Name) × (behind : List Put)
    × (w ≡ with_taken ticket putter v)
    × IsMoment v ((ticket, putter) ∷ behind)
    × AllInOrder w

-- ---- an empty take

-- Nothing changed, and at one moment the queue held no ticket.
abbrev pub FindsNone : List Record → List Record → Type 0
FindsNone v w = (w ≡ v) × Held 0 (GoesWith v)

-- A take gives a ticket, or finds none.
abbrev pub TakeTells : List Record → Option ℕ → List Record → Type 0
TakeTells v None w = FindsNone v w
TakeTells v (Some ticket) w = Takes v ticket w

-- ---- a split

-- The pass itself has split once more.
abbrev pub after_split : List Record → List Record
after_split [] = []
after_split (own ∷ rest) = record own { splits = own.splits + 1 } ∷ rest

-- The pass that is split off has a new name, and has done nothing.
abbrev pub split_off : List Record → List Record
split_off [] = []
split_off (own ∷ rest) = newcomer (own.name ++ own.splits ∷ []) ∷ []

-- ---- a join

-- Both records are under one pass, which is the first.
abbrev pub joined : List Record → List Record → List Record
joined v w = v ++ w

-- ---- closing

-- What the queue holds goes with the records, and is less than a word counts.
abbrev pub Closes : List Record → List ℕ → Type 0
Closes v items = GoesWith v items × (length items < 2 ^ 64)
