-- What is noted of a record: the entry after k others is that of line k + 2, since the plan's line is the first.
use Rattle.std.specs.Prelude.{◌≡◌, ℕ, suc, List, [], ◌∷◌, take, Option, Some, None, Result, Ok, Err}
use Rattle.status_table.specs.Words.{Board, Entry, Plan, Refuses, Reply, Row, StopsAt, after_from, new_board, row}
use Rattle.status_table.specs.declared.fault.EventFault.{EventFault}
use Rattle.board_timeline.specs.Noted.{new_track, noted, touched}
use Rattle.board_timeline.specs.declared.noted.Track.{Track}

-- ---- the rows after entries, if none of them is refused

abbrev pub then_noted : Row → (Board → Reply → Option Track) → Option Track
then_noted (Ok x) rest = rest x.0 x.1
then_noted (Err refusal) rest = None

-- Entries from a line on, on this board and with these rows. The plan is that of the table and that by which runs, jobs and legs
-- are found.
abbrev pub track_from : Plan → Plan → Board → ℕ → Track → List Entry → Option Track
track_from table plan board line track [] = Some track
track_from table plan board line track (e ∷ es) =
    then_noted (row table board e.worker e.event) (λ next reply.
    track_from table plan next (suc line) (noted plan next line (touched e.event) reply track) es)

-- The entries of a record.
abbrev pub track_of : Plan → List Entry → Option Track
track_of plan es = track_from plan plan (new_board plan) 2 (new_track plan) es

-- ---- what the code answers

-- An entry is played and noted.
pub record NotesEntry (table plan : Plan) (line : ℕ) (old : Board) (track : Track) (e : Entry) (new : Board) (track' : Track) : Type 0 where
  pub reply : Reply
  pub played : row table old e.worker e.event ≡ Ok (new, reply)
  pub noted : track' ≡ noted plan new line (touched e.event) reply track

-- The board and the rows are as they were.
abbrev pub IsUntouched : Board → Track → Board → Track → Type 0
IsUntouched old track new track' = (new ≡ old) × (track' ≡ track)

-- Or the table refuses it, and nothing is changed; or there was no memory.
abbrev pub PlaysNoted : Plan → Plan → ℕ → Board → Track → Entry → Result (Unit {0}) EventFault → Board → Track → Type 0
PlaysNoted table plan line old track e (Ok done) new track' = NotesEntry table plan line old track e new track'
PlaysNoted table plan line old track e (Err f) new track' =
    Refuses (row table old e.worker e.event) f × ((f ≡ EventFault.Memory → ⊥) → IsUntouched old track new track')

-- All entries are played, which leads to the new board, and noted.
pub record NotesAll (table plan : Plan) (old : Board) (track : Track) (es : List Entry) (new : Board) (track' : Track) : Type 0 where
  pub played : after_from table old es ≡ Some new
  pub noted : track_from table plan old 2 track es ≡ Some track'

-- Where one is refused, those before it are played and noted, and nothing of it.
abbrev pub LeavesNoted : Plan → Plan → Board → Track → List Entry → Board → Track → ℕ × EventFault → Type 0
LeavesNoted table plan old track es new track' stop =
    (stop.1 ≡ EventFault.Memory → ⊥) → NotesAll table plan old track (take stop.0 es) new track'

-- Or they stop at one, on some board.
abbrev pub RunsNoted : Plan → Plan → Board → Track → List Entry → Result (Unit {0}) (ℕ × EventFault) → Board → Track → Type 0
RunsNoted table plan old track es (Ok done) new track' = NotesAll table plan old track es new track'
RunsNoted table plan old track es (Err stop) new track' = (board : Board) × StopsAt table old es stop.0 stop.1 board
