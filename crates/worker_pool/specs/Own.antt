-- A list of entries that is played over the host of its own answers.
use Rattle.std.specs.Prelude.{◌≡◌, List, Some, Result, Ok, Err}
use Rattle.status_table.specs.Words.{Answer, Board, Entry, Plan, StepCall, after}
use Rattle.step_host.specs.Lawful.{Lawful}
use Rattle.worker_pool.specs.Entries.{IsMemory, IsReplayed, StopsEntries}
use Rattle.worker_pool.specs.declared.fault.PoolFault.{PoolFault}

-- What playing a list over a host comes to: the board after it, or why it stops.
abbrev pub PlaysEntries : (StepCall → Answer → Type 0) → (StepCall → Type 0) → Plan → List Entry → Result Board PoolFault → Type 0
PlaysEntries admits declines p es (Ok board) = IsReplayed admits p es board
PlaysEntries admits declines p es (Err stop) = StopsEntries admits declines p es stop

-- The board after the list, or there was no memory.
abbrev pub GivesBoard : Plan → List Entry → Result Board PoolFault → Type 0
GivesBoard p es (Ok board) = after p es ≡ Some board
GivesBoard p es (Err stop) = IsMemory stop

-- Playing a list that is lawful over a host gives the board after it, unless there is no memory.
abbrev pub GivesBoards : (StepCall → Answer → Type 0) → (StepCall → Type 0) → Type 0
GivesBoards admits declines =
    (p : Plan) (es : List Entry) (played : Result Board PoolFault) → Lawful admits p es → PlaysEntries admits declines p es played
    → GivesBoard p es played
