-- What one thread plays: worker 0 posts what a clerk may, and else plays one leg at a time.
use Rattle.std.specs.Prelude.{◌≡◌, ℕ, ◌<◌, Bool, true, false, List, [], take, Some, slice_get}
use Rattle.status_table.specs.Words.{Answer, Board, Each, Entry, Event, Leg, LegState, Plan, StepCall, after, board_legs, finished, moves, stalled}
use Rattle.step_host.specs.Lawful.{Lawful}
use Rattle.worker_pool.specs.History.{AreOf, NoCancel}
use Rattle.worker_pool.specs.declared.played.Ending.{Ending}
use Rattle.worker_pool.specs.declared.played.Played.{Played}

-- ---- the legs of a board

-- whether a leg has a worker
abbrev pub is_running : LegState → Bool
is_running LegState.Fresh = false
is_running LegState.Waiting = false
is_running LegState.Admitted = false
is_running (LegState.Running worker in_call) = true
is_running (LegState.Ended result tolerated) = false

-- whether a leg may be taken
abbrev pub is_admitted : LegState → Bool
is_admitted LegState.Fresh = false
is_admitted LegState.Waiting = false
is_admitted LegState.Admitted = true
is_admitted (LegState.Running worker in_call) = false
is_admitted (LegState.Ended result tolerated) = false

-- no leg has a worker
abbrev pub NobodyRuns : Board → Type 0
NobodyRuns b = Each (λ leg. is_running leg.state ≡ false) (board_legs b)

-- no leg may be taken
abbrev pub NobodyWaitsForWorkers : Board → Type 0
NobodyWaitsForWorkers b = Each (λ leg. is_admitted leg.state ≡ false) (board_legs b)

-- a leg may be taken, and none that has a lower number
pub record IsLowestAdmitted (b : Board) (l : ℕ) : Type 0 where
  pub leg : Leg
  pub there : slice_get (board_legs b) l ≡ Some leg
  pub admitted : leg.state ≡ LegState.Admitted
  pub lowest : (k : ℕ) (other : Leg) → k < l → slice_get (board_legs b) k ≡ Some other → is_admitted other.state ≡ false

-- ---- the order in which one thread plays

-- it is the first of what a clerk may do, while no leg has a worker
abbrev pub IsFirstMove : Plan → Board → Event → Type 0
IsFirstMove p b e = (slice_get (moves p b) 0 ≡ Some e) × NobodyRuns b

-- What one thread plays next on a board. As long as a leg has its worker it plays that leg, of which the row says what
-- may be next; else it posts the first of what a clerk may do, and where that is nothing, takes the lowest leg that
-- may be taken. It tells no run to stop.
abbrev pub IsNext : Plan → Board → Event → Type 0
IsNext p b (Event.Open r) = IsFirstMove p b (Event.Open r)
IsNext p b (Event.Judge j) = IsFirstMove p b (Event.Judge j)
IsNext p b (Event.Ask l) = IsFirstMove p b (Event.Ask l)
IsNext p b (Event.Drop l) = IsFirstMove p b (Event.Drop l)
IsNext p b (Event.Take l) = (moves p b ≡ []) × NobodyRuns b × IsLowestAdmitted b l
IsNext p b (Event.Begin l) = Unit {0}
IsNext p b (Event.End l a) = Unit {0}
IsNext p b (Event.Finish l) = Unit {0}
IsNext p b (Event.Close r) = IsFirstMove p b (Event.Close r)
IsNext p b (Event.Cancel r) = ⊥

-- each entry is what is next after those before it
abbrev pub InTurn : Plan → List Entry → Type 0
InTurn p es = (k : ℕ) (e : Entry) (b : Board) → slice_get es k ≡ Some e → after p (take k es) ≡ Some b → IsNext p b e.event

-- ---- what is promised

-- A history of one thread: lawful over its host, of worker 0, without Cancel, and each entry in turn.
pub record PlayedAlone (admits : StepCall → Answer → Type 0) (p : Plan) (es : List Entry) : Type 0 where
  pub lawful : Lawful admits p es
  pub worker : AreOf 0 es
  pub uncancelled : NoCancel es
  pub in_turn : InTurn p es

-- how a play ended, by the board that it left
abbrev pub EndsSo : Plan → Board → Ending → Type 0
EndsSo p b Ending.Done = finished b ≡ true
EndsSo p b Ending.Stalled = stalled p b ≡ true

-- A play by one thread has such a history, and leaves the board after it, on which all is finished, or nothing goes on.
pub record EndsAlone (admits : StepCall → Answer → Type 0) (p : Plan) (played : Played) : Type 0 where
  pub history : PlayedAlone admits p played.history
  pub leads : after p played.history ≡ Some played.left.board
  pub ends : EndsSo p played.left.board played.ending
