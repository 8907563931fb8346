-- What the debugger tells of lines that ask it: the answer to each line in turn.
use Rattle.std.specs.Prelude.{◌≡◌, ℕ, ◌⊎◌, ◌++◌, if◌then◌else◌, codes, decimal, List, [], ◌∷◌, length, Some, None, Result, Ok, Err}
use Rattle.status_table.specs.Words.{Board}
use Rattle.debugger.specs.Breaks.{is_set, with_break, without_break}
use Rattle.debugger.specs.Fault.{debug_fault_name}
use Rattle.debugger.specs.Session.{GoesBack, GoesOn, Session, asked_place, moved, next_place, previous_place, shown, with_breaks}
use Rattle.debugger.specs.declared.fault.DebugFault.{DebugFault}
use Rattle.plan_text.specs.BoardText.{board_text}
use Rattle.command_debug.specs.Requests.{Asks, FindsOne}
use Rattle.command_debug.specs.declared.requests.Request.{Request}
use Rattle.command_debug.specs.declared.requests.Request.TheVariants.{Step, Back, GoTo, Go, GoBack, Show, Set, Clear}

-- ---- the answer to one line

-- The line of a refusal.
abbrev pub refusal_line : DebugFault → List ℕ
refusal_line refusal = codes "debug " ++ (debug_fault_name refusal ++ codes "\n")

-- The line of a move: the place that it reached, of so many, or its refusal.
abbrev pub move_line : ℕ → Result ℕ DebugFault → List ℕ
move_line many (Ok place) = codes "place " ++ (decimal place ++ (codes " of " ++ (decimal many ++ codes "\n")))
move_line many (Err refusal) = refusal_line refusal

-- How the line of a place ends, of so many.
abbrev pub place_end : ℕ → List ℕ
place_end many = codes " of " ++ (decimal many ++ codes "\n")

-- A move is no want of memory.
abbrev pub IsMove : Result ℕ DebugFault → Type 0
IsMove (Ok place) = Unit {0}
IsMove (Err DebugFault.AtStart) = Unit {0}
IsMove (Err DebugFault.AtEnd) = Unit {0}
IsMove (Err DebugFault.NoPlace) = Unit {0}
IsMove (Err DebugFault.NoBreak) = Unit {0}
IsMove (Err (DebugFault.BadRecord entry refusal)) = Unit {0}
IsMove (Err DebugFault.Memory) = ⊥

-- A move that leads there, or is refused so, is told.
abbrev pub TellsMove : Session → Result ℕ DebugFault → List ℕ → Session → Type 0
TellsMove s target told next = (told ≡ move_line (length s.entries) target) × (next ≡ moved s target)

-- A move to the nearest break is told.
abbrev pub TellsGo : (Session → Result ℕ DebugFault → Session → Type 0) → Session → List ℕ → Session → Type 0
TellsGo Goes s told next = (found : Result ℕ DebugFault) × IsMove found × Goes s found next × (told ≡ move_line (length s.entries) found)

-- The board at the place is told.
abbrev pub TellsBoard : Session → List ℕ → Session → Type 0
TellsBoard s told next = (board : Board) × (shown s ≡ Some board) × (told ≡ board_text board) × (next ≡ s)

-- What is told of a request, and what it leaves.
abbrev pub TellsRequest : Session → Request → List ℕ → Session → Type 0
TellsRequest s Step told next = TellsMove s (next_place s) told next
TellsRequest s Back told next = TellsMove s (previous_place s) told next
TellsRequest s (GoTo place) told next = TellsMove s (asked_place s place) told next
TellsRequest s Go told next = TellsGo GoesOn s told next
TellsRequest s GoBack told next = TellsGo GoesBack s told next
TellsRequest s Show told next = TellsBoard s told next
TellsRequest s (Set wanted) told next = (told ≡ codes "break set\n") × (next ≡ with_breaks s (with_break wanted s.breaks))
TellsRequest s (Clear wanted) told next =
    (told ≡ (if is_set wanted s.breaks then codes "cleared\n" else codes "no such break\n")) × (next ≡ with_breaks s (without_break wanted s.breaks))

-- What is told of a line: of what it asks for, or that it is no command.
abbrev pub TellsOneLine : Session → List ℕ → List ℕ → Session → Type 0
TellsOneLine s line told next =
    ((request : Request) × Asks line request × TellsRequest s request told next)
    ⊎ (FindsOne (Asks line) None × (told ≡ codes "unknown command\n") × (next ≡ s))

-- ---- the answers to all lines

-- What is told of lines, one after the other.
abbrev pub TellsLines : Session → List (List ℕ) → List ℕ → Type 0
TellsLines s [] told = told ≡ []
TellsLines s (line ∷ lines) told =
    (next : Session) × (first later : List ℕ) × TellsOneLine s line first next × TellsLines next lines later × (told ≡ first ++ later)

-- ---- what the code answers on the way

-- These words were added to others.
abbrev pub Adds : List ℕ → List ℕ → List ℕ → Type 0
Adds old new words = new ≡ old ++ words

-- Words of which that holds were added to others.
abbrev pub AddsSome : (List ℕ → Type 0) → List ℕ → List ℕ → Type 0
AddsSome Is old new = (told : List ℕ) × Is told × Adds old new told
