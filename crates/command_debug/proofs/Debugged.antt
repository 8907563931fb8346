-- What the debugger answers, as it is told.
use Rattle.std.proofs.Common.{◌≡◌, ◌<◌, ◌≤◌, ℕ, List, ◌++◌, take, length, codes, Some, None, Result, Ok, Err, OnOk, if◌then◌else◌, inl, inr, refl, sym, ap, ◌∙◌, arith}
use Rattle.std.proofs.lemmas.Option.{slice_get_within}
use Rattle.std.proofs.lemmas.List.{length-take-le}
use Rattle.status_table.specs.Words.{Board, Entry, IsPlan, Plan, after, new_board}
use Rattle.debugger.specs.Places.{NotOpened, RefusedAt}
use Rattle.debugger.specs.Session.{Moves, MovesInMemory, Session, moved}
use Rattle.debugger.specs.declared.fault.DebugFault.{DebugFault}
use Rattle.status_table.specs.declared.fault.EventFault.{EventFault}
use Rattle.command_debug.specs.Answers.{Adds, AddsSome, IsMove, TellsGo, TellsMove, TellsOneLine, TellsRequest, move_line}
use Rattle.command_debug.specs.Debug.{HasOpenLine, open_error}
use Rattle.command_io.proofs.Stopped.{has_line, refused_there}
use Rattle.command_io.specs.Records.{HasLine, IsStopped}
use Rattle.command_debug.specs.Requests.{Asks, FindsOne}
use Rattle.command_debug.specs.declared.requests.Request.{Request}

-- ---- moves

-- a move that is no want of memory leads where it is asked
pub moved_there : (target : Result ℕ DebugFault) (s : Session) (found : Result ℕ DebugFault) (next : Session) → MovesInMemory target s found next → IsMove found
    → Moves target s found next
moved_there target s (Ok k) next h is = (sym h.0, h.1 ∙ ap (moved s) (sym h.0))
moved_there target s (Err DebugFault.AtStart) next h is = (sym h.0, h.1 ∙ ap (moved s) (sym h.0))
moved_there target s (Err DebugFault.AtEnd) next h is = (sym h.0, h.1 ∙ ap (moved s) (sym h.0))
moved_there target s (Err DebugFault.NoPlace) next h is = (sym h.0, h.1 ∙ ap (moved s) (sym h.0))
moved_there target s (Err DebugFault.NoBreak) next h is = (sym h.0, h.1 ∙ ap (moved s) (sym h.0))
moved_there target s (Err (DebugFault.BadRecord i f)) next h is = (sym h.0, h.1 ∙ ap (moved s) (sym h.0))
moved_there target s (Err DebugFault.Memory) next h is = absurd is

-- so the line of what it answers is that of the move
pub move_told : (target : Result ℕ DebugFault) (s : Session) (found : Result ℕ DebugFault) (next : Session) → Moves target s found next
    → TellsMove s target (move_line (length s.entries) found) next
move_told target s found next h = (ap (move_line (length s.entries)) h.0, h.1)

-- ---- records that are opened

-- a record that is not opened stops there
pub stopped : (p : Plan) (es : List Entry) (why : DebugFault) → NotOpened p (new_board p) es why → IsStopped p es (open_error why)
stopped p es (DebugFault.BadRecord i f) w = refused_there p es i f (λ named. w)
stopped p es DebugFault.AtStart w = absurd w
stopped p es DebugFault.AtEnd w = absurd w
stopped p es DebugFault.NoPlace w = absurd w
stopped p es DebugFault.NoBreak w = absurd w
stopped p es DebugFault.Memory w = tt

line_by : ((p : Plan) → IsPlan p → (es : List Entry) (b : Board) → after p es ≡ Some b → length es ≤ 2113728)
    → (p : Plan) → IsPlan p → (es : List Entry) (i : ℕ) (f : EventFault) → RefusedAt p (new_board p) es i f → HasLine i f
line_by short p rules es i f w =
    let inside : i < length es = slice_get_within es i w.2.0 w.2.1 in
    let few : length (take i es) ≤ 2113728 = short p rules (take i es) w.0 w.1 in
    let same : length (take i es) ≡ i = length-take-le i es (omega (arith, inside)) in
    has_line i f (omega (arith, few, same))

pub has_open_line : ((p : Plan) → IsPlan p → (es : List Entry) (b : Board) → after p es ≡ Some b → length es ≤ 2113728)
    → (p : Plan) → IsPlan p → (es : List Entry) (why : DebugFault) → NotOpened p (new_board p) es why → HasOpenLine why
has_open_line short p rules es (DebugFault.BadRecord i f) w = line_by short p rules es i f w
has_open_line short p rules es DebugFault.AtStart w = tt
has_open_line short p rules es DebugFault.AtEnd w = tt
has_open_line short p rules es DebugFault.NoPlace w = tt
has_open_line short p rules es DebugFault.NoBreak w = tt
has_open_line short p rules es DebugFault.Memory w = tt

-- ---- what is added to a text

module _ {E : Type 0} (s next : Session) (old new : List ℕ) where
  -- the line of a move
  pub adds_moved : (target found : Result ℕ DebugFault) (last : ℕ) (r : Result (Unit {0}) E) → last ≡ length s.entries → Moves target s found next
      → OnOk r (Adds old new (move_line last found)) → OnOk r (AddsSome (λ words. TellsMove s target words next) old new)
  adds_moved target found last (Ok done) many h adds =
      (move_line (length s.entries) found, move_told target s found next h, adds ∙ ap (λ (n : ℕ). old ++ move_line n found) many)
  adds_moved target found last (Err e) many h adds = tt

  -- that of a move that may find no memory
  pub adds_move : (target found : Result ℕ DebugFault) (last : ℕ) (r : Result (Unit {0}) E) → last ≡ length s.entries → MovesInMemory target s found next
      → OnOk r (IsMove found) → OnOk r (Adds old new (move_line last found)) → OnOk r (AddsSome (λ words. TellsMove s target words next) old new)
  adds_move target found last (Ok done) many h is adds = adds_moved target found last (Ok done) many (moved_there target s found next h is) adds
  adds_move target found last (Err e) many h is adds = tt

  -- that of a move to the nearest break
  pub adds_go : (Goes : Session → Result ℕ DebugFault → Session → Type 0) (found : Result ℕ DebugFault) (last : ℕ) (r : Result (Unit {0}) E) → last ≡ length s.entries
      → Goes s found next → OnOk r (IsMove found) → OnOk r (Adds old new (move_line last found)) → OnOk r (AddsSome (λ words. TellsGo Goes s words next) old new)
  adds_go Goes found last (Ok done) many h is adds =
      (move_line (length s.entries) found, (found, is, h, refl), adds ∙ ap (λ (n : ℕ). old ++ move_line n found) many)
  adds_go Goes found last (Err e) many h is adds = tt

  -- what is told of a request is told of the line that asks for it
  pub adds_asked : (line : List ℕ) (request : Request) (r : Result (Unit {0}) E) → Asks line request → OnOk r (AddsSome (λ words. TellsRequest s request words next) old new)
      → OnOk r (AddsSome (λ words. TellsOneLine s line words next) old new)
  adds_asked line request (Ok done) asks told = (told.0, inl (request, asks, told.1), told.2)
  adds_asked line request (Err e) asks told = tt

-- that a line is no command is told
pub adds_unknown : {E : Type 0} (s : Session) (old new : List ℕ) (line : List ℕ) (r : Result (Unit {0}) E) → FindsOne (Asks line) None
    → OnOk r (Adds old new (codes "unknown command\n")) → OnOk r (AddsSome (λ words. TellsOneLine s line words s) old new)
adds_unknown s old new line (Ok done) none adds = (codes "unknown command\n", inr (none, refl, refl), adds)
adds_unknown s old new line (Err e) none adds = tt
