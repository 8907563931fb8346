-- What `actrun replay --changes` tells of a record: at the opening place the whole board, and at each place after it what the
-- board there has otherwise than the board one place before.
use Rattle.std.specs.Prelude.{◌≡◌, ◌++◌, ℕ, zero, suc, List, [], ◌∷◌, codes, decimal, length, take, Some, Result, Ok, Err, String}
use Rattle.std.specs.declared.alloc.Global.{Global}
use Rattle.status_table.specs.Words.{Board, Entry, Plan, Refuses, StopsAt, after_from, new_board, row}
use Rattle.plan_text.specs.BoardText.{board_text}
use Rattle.plan_text.specs.Changes.{AddsOf, TellsBoth, TellsChanges}
use Rattle.status_table.specs.declared.fault.EventFault.{EventFault}
use Rattle.command_io.specs.Records.{IsShownAnswer, IsStopped, OfRecord, TellsShown}
use Rattle.command_io.specs.Runs.{runs_status}
use Rattle.command_io.specs.Stream.{Stream}
use Rattle.command_io.specs.Tell.{Answer, Printed}
use Rattle.command_io.specs.declared.error.CommandError.{CommandError}
use Rattle.command_print.specs.Replay.{LeadsTo}

-- ---- what is told of entries

-- The line of a place, which is the number of entries before it.
abbrev pub place_line : ℕ → List ℕ
place_line k = codes "place " ++ decimal k ++ codes "\n"

-- Place k, at which the board is another than before.
abbrev pub TellsPlace : ℕ → Board → Board → List ℕ → Type 0
TellsPlace k before board told = (changes : List ℕ) × TellsChanges before board changes × (told ≡ place_line k ++ changes)

-- The place after k entries, to which the next one leads.
abbrev pub TellsNext : Plan → List Entry → ℕ → List ℕ → Type 0
TellsNext plan entries k told =
    (before board : Board) × LeadsTo plan (take k entries) before × LeadsTo plan (take (suc k) entries) board × TellsPlace (suc k) before board told

-- Place k, with its whole board.
abbrev pub place_text : ℕ → Board → List ℕ
place_text k board = place_line k ++ board_text board

-- The places up to k: of the opening one the board on which all is new.
abbrev pub TellsPlaces : Plan → List Entry → ℕ → List ℕ → Type 0
TellsPlaces plan entries zero told = told ≡ place_text 0 (new_board plan)
TellsPlaces plan entries (suc k) told = TellsBoth (TellsPlaces plan entries k) (TellsNext plan entries k) told

-- The places of entries, which are legal, and the status that goes with the board at the last one.
pub record AreTold (shown : List ℕ) (status : ℕ) (plan : Plan) (entries : List Entry) : Type 0 where
  pub board : Board
  pub leads : LeadsTo plan entries board
  pub shows : TellsPlaces plan entries (length entries) shown
  pub tells : status ≡ runs_status board

-- The places of a record are shown so.
abbrev pub ShowsChanges : List ℕ → List ℕ → ℕ → Type 0
ShowsChanges text shown status = OfRecord text (AreTold shown status)

-- To a record there is one such text, and one status.
abbrev pub OneTextOfChanges : Type 0
OneTextOfChanges = (text one other : List ℕ) (status status' : ℕ) → ShowsChanges text one status → ShowsChanges text other status'
    → (one ≡ other) × (status ≡ status')

-- To every text there is an answer: its places and a status, or why it is no record that is played to its end.
abbrev pub SomeTextOfChanges : Type 0
SomeTextOfChanges = (text : List ℕ) → (status : ℕ) × (answer : Answer) × IsShownAnswer ShowsChanges status text answer

-- What `replay --changes` leaves.
abbrev pub ChangesTells : Stream → Stream → Stream → Stream → Stream → Stream → ℕ → Type 0
ChangesTells = TellsShown ShowsChanges

-- ---- what the code answers on the way

-- Two boards of one plan on which all is new.
abbrev pub AreNew : Plan → Board → Plan → Board → Type 0
AreNew one board other board' = (one ≡ other) × (board ≡ new_board one) × (board' ≡ new_board other)

-- Two boards are so, and the opening place is told.
abbrev pub AreOpening : Plan → Board → Plan → Board → List ℕ → Type 0
AreOpening one board other board' text = AreNew one board other board' × (text ≡ place_text 0 (new_board other))

-- An entry leads two boards that were the same to the same board, and the place that it leads to is told; or the table refuses it;
-- or memory runs out.
abbrev pub TellsEntry : Plan → ℕ → Board → Entry → Result (Unit {0}) EventFault → Board → Board → String Global → String Global → Type 0
TellsEntry plan k old entry (Ok done) before board text text' =
    (after_from plan old (entry ∷ []) ≡ Some board) × (before ≡ board) × AddsOf (TellsPlace k old board) text text'
TellsEntry plan k old entry (Err fault) before board text text' = Refuses (row plan old entry.worker entry.event) fault

-- Entries are played on boards on which all was new, and the places to which they lead are told; or they stop at one.
abbrev pub TellsEntries : Plan → List Entry → Result (Unit {0}) (ℕ × EventFault) → Board → List ℕ → Type 0
TellsEntries plan entries (Ok done) board text = LeadsTo plan entries board × TellsPlaces plan entries (length entries) text
TellsEntries plan entries (Err stop) board text = (last : Board) × StopsAt plan (new_board plan) entries stop.0 stop.1 last

-- The places of a plan and entries, or the entries are not played to their end.
abbrev pub GivesTold : Plan → List Entry → Result Printed CommandError → Type 0
GivesTold plan entries (Ok both) = AreTold both.0.items both.1 plan entries
GivesTold plan entries (Err error) = IsStopped plan entries error
