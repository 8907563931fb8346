-- How far a play has come.
use Rattle.std.specs.Prelude.{◌≡◌, ◌≢◌, ℕ, ◌<◌, ◌≤◌, Bool, true, false, List, [], Option, Some, None, Result, Ok, Err, length, slice_get}
use Rattle.status_table.specs.Words.{Answer, Board, Entry, Event, InPlay, Leg, LegAt, LegState, Plan, Reply, StepCall, What, after, board_legs, leg_at, moves, next_step, open_call}
use Rattle.worker_pool.specs.Alone.{is_running, NobodyRuns, NobodyWaitsForWorkers, IsLowestAdmitted, EndsSo, PlayedAlone}
use Rattle.worker_pool.specs.Fault.{IsUnanswered}
use Rattle.worker_pool.specs.History.{Added}
use Rattle.worker_pool.specs.declared.played.Ending.{Ending}
use Rattle.worker_pool.specs.declared.stop.PoolStop.{PoolStop}

-- One thread has played entries that lead to a board.
pub record Playing (admits : StepCall → Answer → Type 0) (p : Plan) (b : Board) (es : List Entry) : Type 0 where
  pub in_play : InPlay p b
  pub leads : after p es ≡ Some b
  pub played : PlayedAlone admits p es

-- and no leg has a worker
pub record Between (admits : StepCall → Answer → Type 0) (p : Plan) (b : Board) (es : List Entry) : Type 0 where
  pub playing : Playing admits p b es
  pub nobody : NobodyRuns b

-- A leg is with worker 0, in a call or idle, and no other leg has a worker.
pub record Holds (b : Board) (l : ℕ) (in_call : Bool) : Type 0 where
  pub leg : Leg
  pub there : slice_get (board_legs b) l ≡ Some leg
  pub state : leg.state ≡ LegState.Running 0 in_call
  pub others : (k : ℕ) (other : Leg) → k ≢ l → slice_get (board_legs b) k ≡ Some other → is_running other.state ≡ false

-- One thread has a leg, which is idle.
pub record InHand (admits : StepCall → Answer → Type 0) (p : Plan) (b : Board) (es : List Entry) (l : ℕ) : Type 0 where
  pub playing : Playing admits p b es
  pub holds : Holds b l false

-- One thread has a leg, which is in this call.
pub record Calling (admits : StepCall → Answer → Type 0) (p : Plan) (b : Board) (es : List Entry) (l : ℕ) (call : StepCall) : Type 0 where
  pub playing : Playing admits p b es
  pub holds : Holds b l true
  pub opened : open_call p es l ≡ Some call
  pub of_leg : call.leg ≡ l
  pub of_step : call.step ≡ length holds.leg.steps

-- One thread has begun a step of a leg, by what was replied.
abbrev pub Begun : (StepCall → Answer → Type 0) → Plan → Board → List Entry → ℕ → What → Type 0
Begun admits p b es l What.Moved = InHand admits p b es l
Begun admits p b es l (What.Call call) = Calling admits p b es l call
Begun admits p b es l What.Skipped = InHand admits p b es l
Begun admits p b es l (What.Faulted f) = InHand admits p b es l

-- Why one thread goes no further, after what it has played.
abbrev pub StopsHere : (StepCall → Answer → Type 0) → (StepCall → Type 0) → Plan → List Entry → PoolStop → Type 0
StopsHere admits declines p es (PoolStop.NoAnswer l step) = PlayedAlone admits p es × IsUnanswered declines p es l step
StopsHere admits declines p es PoolStop.Mismatch = ⊥
StopsHere admits declines p es PoolStop.Memory = PlayedAlone admits p es

-- ---- what one thread's turns come to

-- an entry of worker 0
abbrev pub of_zero : Event → Entry
of_zero e = record { worker = 0; event = e }

-- nothing is changed, since there was no memory
abbrev pub IsOutOfMemory : Board → List Entry → PoolStop → Board → List Entry → Type 0
IsOutOfMemory old es s new more = (s ≡ PoolStop.Memory) × (new ≡ old) × (more ≡ es)

-- The first of what a clerk may do is posted; or there is nothing that it may do.
abbrev pub Posts : Plan → Board → List Entry → Result Bool PoolStop → Board → List Entry → Type 0
Posts p old es (Ok true) new more =
    (e : Event) × (told : Reply) × (slice_get (moves p old) 0 ≡ Some e) × Added p old es (of_zero e) told new more
Posts p old es (Ok false) new more = (moves p old ≡ []) × (new ≡ old) × (more ≡ es)
Posts p old es (Err s) new more = IsOutOfMemory old es s new more

-- The lowest leg that may be taken is taken; or there is none.
abbrev pub Takes : Plan → Board → List Entry → Result (Option ℕ) PoolStop → Board → List Entry → Type 0
Takes p old es (Ok (Some l)) new more = (told : Reply) × IsLowestAdmitted old l × Added p old es (of_zero (Event.Take l)) told new more
Takes p old es (Ok None) new more = NobodyWaitsForWorkers old × (new ≡ old) × (more ≡ es)
Takes p old es (Err s) new more = IsOutOfMemory old es s new more

-- The leg is found on the board, and has no step left.
pub record IsThrough (p : Plan) (b : Board) (l : ℕ) : Type 0 where
  pub at : LegAt
  pub found : leg_at p b l ≡ Some at
  pub through : next_step at ≡ None

-- The leg is idle again after a step, or it has no step left and nothing is changed; or one thread goes no further.
abbrev pub PlaysStep : (StepCall → Answer → Type 0) → (StepCall → Type 0) → Plan → ℕ → List Entry → Result Bool PoolStop → Board → List Entry → Type 0
PlaysStep admits declines p l es (Ok true) new more = InHand admits p new more l × (length es < length more)
PlaysStep admits declines p l es (Ok false) new more = InHand admits p new more l × IsThrough p new l × (more ≡ es)
PlaysStep admits declines p l es (Err s) new more = StopsHere admits declines p more s

-- The leg is idle again, with more played; or one thread goes no further.
abbrev pub EndsStep : (StepCall → Answer → Type 0) → (StepCall → Type 0) → Plan → ℕ → List Entry → Result (Unit {0}) PoolStop → Board → List Entry → Type 0
EndsStep admits declines p l es (Ok done) new more = InHand admits p new more l × (length es ≤ length more)
EndsStep admits declines p l es (Err s) new more = StopsHere admits declines p more s

-- No leg has a worker any more, with more played; or one thread goes no further.
abbrev pub EndsLeg : (StepCall → Answer → Type 0) → (StepCall → Type 0) → Plan → List Entry → Result (Unit {0}) PoolStop → Board → List Entry → Type 0
EndsLeg admits declines p es (Ok done) new more = Between admits p new more × (length es < length more)
EndsLeg admits declines p es (Err s) new more = StopsHere admits declines p more s

-- More is played, or there is nothing to be played; or one thread goes no further.
abbrev pub TakesTurn : (StepCall → Answer → Type 0) → (StepCall → Type 0) → Plan → List Entry → Result Bool PoolStop → Board → List Entry → Type 0
TakesTurn admits declines p es (Ok true) new more = Between admits p new more × (length es < length more)
TakesTurn admits declines p es (Ok false) new more = Between admits p new more × (moves p new ≡ []) × NobodyWaitsForWorkers new
TakesTurn admits declines p es (Err s) new more = StopsHere admits declines p more s

-- One thread has played to the end; or it goes no further.
abbrev pub PlaysOut : (StepCall → Answer → Type 0) → (StepCall → Type 0) → Plan → Result Ending PoolStop → Board → List Entry → Type 0
PlaysOut admits declines p (Ok ending) b es = Playing admits p b es × EndsSo p b ending
PlaysOut admits declines p (Err s) b es = StopsHere admits declines p es s
