-- A rule of the house: what a caller has the queue keep besides, of the tickets in it, the oldest first, and of the records under each
-- pass. Its calls are asked that it stays, and a call that is refused tells that it held.
use Rattle.std.specs.Prelude.{◌≡◌, ℕ, ◌<◌, ◌⊎◌, List, [], ◌∷◌, ◌++◌, length, slice_set}
use mathlib.Core.Option.{some}
use lib.ListN.{get_elem?}
use Rattle.crossbeam_queue.specs.Fifo.{Forks, Merges}
use Rattle.ready_queue.specs.Names.{Name}
use Rattle.ready_queue.specs.Records.{Each}
use Rattle.ready_queue.specs.Rule.{KeepsRule}
use Rattle.ready_queue.specs.Steps.{with_put, with_taken, after_split, split_off, joined}
use Rattle.ready_queue.specs.declared.record.Record.{Record}

module _ (holds : List ℕ → List (List Record) → Type 0) where
  -- It stays when the pass of these records puts the ticket, where there is room.
  abbrev pub StaysAtPut : ℕ → List Record → ℕ → Type 0
  StaysAtPut capacity v ticket =
      (items : List ℕ) (views : List (List Record)) (port : ℕ)
      → length items < capacity
      → holds items views
      → get_elem? views port ≡ some v
      → holds (items ++ ticket ∷ []) (slice_set views port (with_put ticket v))

  -- It stays when the pass of these records takes the oldest ticket, whatever it is and whoever put it.
  abbrev pub StaysAtTake : List Record → Type 0
  StaysAtTake v =
      (ticket : ℕ) (putter : Name) (items : List ℕ) (views : List (List Record)) (port : ℕ)
      → holds (ticket ∷ items) views
      → get_elem? views port ≡ some v
      → holds items (slice_set views port (with_taken ticket putter v))

  -- It stays when the pass of these records is split.
  abbrev pub StaysAtSplit : List Record → Type 0
  StaysAtSplit v = (port : ℕ) → Forks holds port v (after_split v) (split_off v)

  -- It stays when the second of two passes is joined to the first.
  abbrev pub StaysAtJoin : List Record → List Record → Type 0
  StaysAtJoin v w = (port other : ℕ) → Merges holds port v other w (joined v w) []

  -- Both rules held at one moment, at which the queue held these tickets, and one of its passes these records.
  abbrev pub HeldAt : List Record → List ℕ → Type 0
  HeldAt v items = (views : List (List Record)) × (port : ℕ) × (get_elem? views port ≡ some v) × KeepsRule items views × holds items views

-- ---- two rules that a caller can take

-- Only the pass of this name takes.
abbrev pub OnlyTaker : Name → List ℕ → List (List Record) → Type 0
OnlyTaker name items views = (port : ℕ) (u : List Record) → get_elem? views port ≡ some u → Each (λ r. (r.name ≡ name) ⊎ (r.taken ≡ [])) u

-- Only the pass of this name puts.
abbrev pub OnlyPutter : Name → List ℕ → List (List Record) → Type 0
OnlyPutter name items views = (port : ℕ) (u : List Record) → get_elem? views port ≡ some u → Each (λ r. (r.name ≡ name) ⊎ (r.put ≡ [])) u

-- It is the pass of this name, whatever was joined to it.
abbrev pub Leads : Name → List Record → Type 0
Leads name [] = ⊥
Leads name (own ∷ rest) = own.name ≡ name
