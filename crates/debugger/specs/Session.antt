-- A record under the debugger, and its moves.
use Rattle.std.specs.Prelude.{◌≡◌, ◌≤◌, ◌<◌, ◌+◌, ◌-◌, ◌==◌, ℕ, Bool, true, false, List, [], length, nat_le, Option, Result, Ok, Err, is_ok, if◌then◌else◌}
use Rattle.std.specs.List.{list_any}
use Rattle.status_table.specs.Words.{Board, Entry, Plan}
use Rattle.debugger.specs.declared.breaks.Break.{Break}
use Rattle.debugger.specs.declared.fault.DebugFault.{DebugFault}
use Rattle.debugger.specs.Places.{board_at, holds}

-- a plan with the board to begin on, the entries of its record, the place among them, and the breaks that are set
pub record Session : Type 0 where
  pub plan : Plan
  pub start : Board
  pub entries : List Entry
  pub place : ℕ
  pub breaks : List Break

-- a record that was just opened: at its start, with no break
abbrev pub opened : Plan → Board → List Entry → Session
opened p b es = record { plan = p; start = b; entries = es; place = 0; breaks = [] }

-- the board that is shown: the one at the place
abbrev pub shown : Session → Option Board
shown s = board_at s.plan s.start s.entries s.place

-- a session at another place
abbrev pub at_place : Session → ℕ → Session
at_place s k = record s { place = k }

-- a session with other breaks
abbrev pub with_breaks : Session → List Break → Session
with_breaks s breaks = record s { breaks = breaks }

-- ---- moves to a place that is asked for

-- where a step leads, or why it leads nowhere
abbrev pub next_place : Session → Result ℕ DebugFault
next_place s = if s.place == length s.entries then Err DebugFault.AtEnd else Ok (s.place + 1)

-- where a step back leads, or why it leads nowhere
abbrev pub previous_place : Session → Result ℕ DebugFault
previous_place s = if s.place == 0 then Err DebugFault.AtStart else Ok (s.place - 1)

-- whether there is a place
abbrev pub asked_place : Session → ℕ → Result ℕ DebugFault
asked_place s k = if nat_le k (length s.entries) then Ok k else Err DebugFault.NoPlace

-- what a move leaves: the place that it leads to, or all as it was
abbrev pub moved : Session → Result ℕ DebugFault → Session
moved s (Ok k) = at_place s k
moved s (Err refusal) = s

-- A move answers the place that it leads to, which is the new place; or it is refused, and nothing is changed.
abbrev pub Moves : Result ℕ DebugFault → Session → Result ℕ DebugFault → Session → Type 0
Moves target old result new = (result ≡ target) × (new ≡ moved old target)

-- A move that may find no memory: it is looked for last, where the move leads somewhere, and nothing is changed
-- without it.
abbrev pub MovesInMemory : Result ℕ DebugFault → Session → Result ℕ DebugFault → Session → Type 0
MovesInMemory target old (Ok k) new = (target ≡ Ok k) × (new ≡ at_place old k)
MovesInMemory target old (Err DebugFault.AtStart) new = (target ≡ Err DebugFault.AtStart) × (new ≡ old)
MovesInMemory target old (Err DebugFault.AtEnd) new = (target ≡ Err DebugFault.AtEnd) × (new ≡ old)
MovesInMemory target old (Err DebugFault.NoPlace) new = (target ≡ Err DebugFault.NoPlace) × (new ≡ old)
MovesInMemory target old (Err DebugFault.NoBreak) new = (target ≡ Err DebugFault.NoBreak) × (new ≡ old)
MovesInMemory target old (Err (DebugFault.BadRecord i refusal)) new = (target ≡ Err (DebugFault.BadRecord i refusal)) × (new ≡ old)
MovesInMemory target old (Err DebugFault.Memory) new = (is_ok target ≡ true) × (new ≡ old)

-- ---- moves to the nearest break

-- whether a break that is set holds at a place
abbrev pub stops_at : Session → ℕ → Bool
stops_at s k = list_any (holds s.plan s.start s.entries k) s.breaks

-- the nearest later place where a break that is set holds
pub record NextStop (s : Session) (k : ℕ) : Type 0 where
  pub later : s.place < k
  pub within : k ≤ length s.entries
  pub stops : stops_at s k ≡ true
  pub nearest : (j : ℕ) → s.place < j → j < k → stops_at s j ≡ false

-- there is no later one
abbrev pub NoNextStop : Session → Type 0
NoNextStop s = (j : ℕ) → s.place < j → j ≤ length s.entries → stops_at s j ≡ false

-- the nearest earlier place where a break that is set holds
pub record PreviousStop (s : Session) (k : ℕ) : Type 0 where
  pub earlier : k < s.place
  pub stops : stops_at s k ≡ true
  pub nearest : (j : ℕ) → k < j → j < s.place → stops_at s j ≡ false

-- there is no earlier one
abbrev pub NoPreviousStop : Session → Type 0
NoPreviousStop s = (j : ℕ) → j < s.place → stops_at s j ≡ false

-- Going on leads to the nearest later stop and answers it; where there is none it is refused, and nothing is changed; nor
-- is anything where there is one, and no memory.
abbrev pub GoesOn : Session → Result ℕ DebugFault → Session → Type 0
GoesOn old (Ok k) new = NextStop old k × (new ≡ at_place old k)
GoesOn old (Err DebugFault.NoBreak) new = NoNextStop old × (new ≡ old)
GoesOn old (Err DebugFault.Memory) new = ((k : ℕ) × NextStop old k) × (new ≡ old)
GoesOn old (Err DebugFault.AtStart) new = ⊥
GoesOn old (Err DebugFault.AtEnd) new = ⊥
GoesOn old (Err DebugFault.NoPlace) new = ⊥
GoesOn old (Err (DebugFault.BadRecord i refusal)) new = ⊥

-- Going back leads to the nearest earlier stop and answers it; where there is none it is refused, and nothing is changed.
abbrev pub GoesBack : Session → Result ℕ DebugFault → Session → Type 0
GoesBack old (Ok k) new = PreviousStop old k × (new ≡ at_place old k)
GoesBack old (Err DebugFault.NoBreak) new = NoPreviousStop old × (new ≡ old)
GoesBack old (Err DebugFault.Memory) new = ⊥
GoesBack old (Err DebugFault.AtStart) new = ⊥
GoesBack old (Err DebugFault.AtEnd) new = ⊥
GoesBack old (Err DebugFault.NoPlace) new = ⊥
GoesBack old (Err (DebugFault.BadRecord i refusal)) new = ⊥
