-- The way that a board came: the boards before it, each of which can be gone back to.
use Rattle.std.specs.Prelude.{◌≡◌, ◌≤◌, ◌<◌, ◌++◌, ℕ, suc, List, [], ◌∷◌, length, Option, Some, Result, Ok, Err, slice_get}
use Rattle.status_table.specs.Words.{Board, Entry, Plan, Refuses, Row, after_from, leg_places, row}
use Rattle.status_table.specs.declared.fault.EventFault.{EventFault}
use Rattle.debugger.specs.declared.fault.DebugFault.{DebugFault}
use Rattle.debugger.specs.declared.breaks.Break.{Break}
use Rattle.debugger.specs.declared.marks.Mark.{Mark}
use Rattle.debugger.specs.Marks.{TellsBreaks, is_marked}
use Rattle.debugger.specs.Places.{IsLegalFrom, board_at, holds}

-- a plan, the boards that were gone through, the first of them first, and the board now
pub record Trail : Type 0 where
  pub plan : Plan
  pub past : List Board
  pub now : Board

-- the first board of all
abbrev pub first_of : List Board → Board → Board
first_of [] now = now
first_of (b ∷ bs) now = b

-- all boards, the last one last
abbrev pub boards_of : Trail → List Board
boards_of t = t.past ++ t.now ∷ []

-- One more entry: it leads to a new board; or the table refuses it, or there was no memory, and nothing is changed.
abbrev pub Advances : Trail → Entry → Result (Unit {0}) EventFault → Trail → Type 0
Advances old e (Ok done) new =
    (after_from old.plan old.now (e ∷ []) ≡ Some new.now) × (new.past ≡ old.past ++ old.now ∷ []) × (new.plan ≡ old.plan)
Advances old e (Err f) new = Refuses (row old.plan old.now e.worker e.event) f × (new ≡ old)

-- ---- what undos lead back through

module _ {U : Type 0} (before : U → Board → Board) where
  -- the board to which all undos lead back, the first of them last
  abbrev pub undone : List U → Board → Board
  undone [] now = now
  undone (u ∷ us) now = before u (undone us now)

  -- the boards that they lead back to
  abbrev pub past_of : List U → Board → List Board
  past_of [] now = []
  past_of (u ∷ us) now = undone (u ∷ us) now ∷ past_of us now

  -- each undo fits the board to which those after it lead back
  abbrev pub AllFit : (U → Plan → Board → Type 0) → Plan → List U → Board → Type 0
  AllFit fits p [] now = Unit {0}
  AllFit fits p (u ∷ us) now = fits u p (undone us now) × AllFit fits p us now

-- ---- what a debugger keeps

-- a list has what is told at each of its places
abbrev pub Tells : {A : Type 0} → List A → (ℕ → Option A) → Type 0
Tells xs told = (i : ℕ) → i < length xs → slice_get xs i ≡ told i

-- what is kept of the entry at a place tells which breaks hold there
abbrev pub TellsAt : Plan → Board → List Entry → ℕ → Mark → Type 0
TellsAt p b es i mark =
    (e : Entry) → slice_get es i ≡ Some e → (wanted : Break) → is_marked wanted e.event mark ≡ holds p b es (suc i) wanted

-- so does what is kept of each
abbrev pub AllTell : Plan → Board → List Entry → List Mark → Type 0
AllTell p b es kept = (i : ℕ) (mark : Mark) → slice_get kept i ≡ Some mark → TellsAt p b es i mark

-- From a first board, the boards gone through are those at the places so far, which are of the record; no entry of it is
-- refused; and what is kept of each entry tells which breaks hold there.
pub record Follows (p : Plan) (b : Board) (past : List Board) (now : Board) (es : List Entry) (kept : List Mark) : Type 0 where
  pub boards : Tells (past ++ now ∷ []) (board_at p b es)
  pub within : length past ≤ length es
  pub legal : IsLegalFrom p b es
  pub many : length kept ≡ length es
  pub told : AllTell p b es kept

-- ---- the first way through a record

-- why an entry of a record is not played, by its place and its row
abbrev pub NotPlayed : Row → ℕ → DebugFault → Type 0
NotPlayed r k DebugFault.AtStart = ⊥
NotPlayed r k DebugFault.AtEnd = ⊥
NotPlayed r k DebugFault.NoPlace = ⊥
NotPlayed r k DebugFault.NoBreak = ⊥
NotPlayed r k (DebugFault.BadRecord i why) = (i ≡ k) × (r ≡ Err why)
NotPlayed r k DebugFault.Memory = Unit {0}

-- the refusal of the entry at a place
abbrev pub refused_at : ℕ → EventFault → DebugFault
refused_at k EventFault.NoSuch = DebugFault.BadRecord k EventFault.NoSuch
refused_at k EventFault.WrongState = DebugFault.BadRecord k EventFault.WrongState
refused_at k EventFault.OtherWorker = DebugFault.BadRecord k EventFault.OtherWorker
refused_at k EventFault.NeedsOpen = DebugFault.BadRecord k EventFault.NeedsOpen
refused_at k EventFault.SlotsFull = DebugFault.BadRecord k EventFault.SlotsFull
refused_at k EventFault.Stopping = DebugFault.BadRecord k EventFault.Stopping
refused_at k EventFault.NotStopping = DebugFault.BadRecord k EventFault.NotStopping
refused_at k EventFault.StepsLeft = DebugFault.BadRecord k EventFault.StepsLeft
refused_at k EventFault.BadAnswer = DebugFault.BadRecord k EventFault.BadAnswer
refused_at k EventFault.Memory = DebugFault.Memory

-- An entry was played, what is kept of it tells which breaks hold of it, and the legs stand where they stood.
pub record Recorded (old : Trail) (e : Entry) (new : Trail) (mark : Mark) : Type 0 where
  pub led : after_from old.plan old.now (e ∷ []) ≡ Some new.now
  pub past : new.past ≡ old.past ++ old.now ∷ []
  pub plan : new.plan ≡ old.plan
  pub placed : leg_places new.now ≡ leg_places old.now
  pub tells : TellsBreaks e old.now new.now mark

-- So many of the first entries were played: the boards are those at the places so far, and what is kept of each entry so far
-- tells which breaks hold there.
pub record IsPlayed (p : Plan) (b : Board) (es : List Entry) (k : ℕ) (t : Trail) (kept : List Mark) : Type 0 where
  pub plan : t.plan ≡ p
  pub boards : Tells (boards_of t) (board_at p b es)
  pub place : length t.past ≡ k
  pub many : length kept ≡ k
  pub told : AllTell p b es kept
