-- What is played of a plan.
use Rattle.std.specs.Prelude.{◌≡◌, ℕ, ◌⊎◌, true, List, [], Option, Some, None, Result, Ok, Err}
use Rattle.status_table.specs.Words.{Answer, Board, Each, Entry, Event, Plan, Play, StepCall, after, finished, is_well_formed, stalled}
use Rattle.command_io.specs.declared.stop.PlayStop.{PlayStop}
use Rattle.command_run.specs.Growing.{WereAccepted}
use Rattle.command_run.specs.PlanMasks.{plan_masks}
use Rattle.command_run.specs.declared.playing.Playing.{Playing}
use Rattle.step_host.specs.Masked.{IsMasked}
use Rattle.worker_pool.specs.Fault.{InCall}
use Rattle.worker_pool.specs.History.{NoCancel}
use Rattle.worker_pool.specs.Many.{AreBelow, AreNoWorkers}
use Rattle.worker_pool.specs.declared.fault.PoolFault.{PoolFault}
use Rattle.worker_pool.specs.declared.played.Played.{Played}

-- A host gives no answer but the masked form of one that is well-formed.
abbrev pub MasksAnswers : List (List ℕ) → (StepCall → Answer → Type 0) → Type 0
MasksAnswers masks admits = (call : StepCall) (answer : Answer) → admits call answer → IsMasked masks (λ plain. is_well_formed plain ≡ true) answer

-- The answer of an event, if it is an End, is masked so.
abbrev pub GivesMasked : List (List ℕ) → Event → Type 0
GivesMasked masks (Event.Open r) = Unit {0}
GivesMasked masks (Event.Judge j) = Unit {0}
GivesMasked masks (Event.Ask l) = Unit {0}
GivesMasked masks (Event.Drop l) = Unit {0}
GivesMasked masks (Event.Take l) = Unit {0}
GivesMasked masks (Event.Begin l) = Unit {0}
GivesMasked masks (Event.End l answer) = IsMasked masks (λ plain. is_well_formed plain ≡ true) answer
GivesMasked masks (Event.Finish l) = Unit {0}
GivesMasked masks (Event.Close r) = Unit {0}
GivesMasked masks (Event.Cancel r) = Unit {0}

-- A history that the table accepts, of workers below their number, of whom there may be so many, in which no run is told to stop. The
-- answers of its calls are masked by the secrets of the plan.
pub record IsPlayed (plan : Plan) (workers : ℕ) (history : List Entry) : Type 0 where
  pub number : AreNoWorkers workers → ⊥
  pub board : Board
  pub leads : after plan history ≡ Some board
  pub of_them : AreBelow workers history
  pub uncancelled : NoCancel history
  pub masked : Each (λ e. GivesMasked (plan_masks plan) e.event) history

-- A play came to its end: every run is closed on the board after its history, or nothing goes on.
pub record HasEnded (plan : Plan) (history : List Entry) : Type 0 where
  pub board : Board
  pub leads : after plan history ≡ Some board
  pub ends : (finished board ≡ true) ⊎ (stalled plan board ≡ true)

-- A leg is in a call after a history, to which its host gave no answer.
pub record IsLeftInCall (plan : Plan) (history : List Entry) : Type 0 where
  pub leg : ℕ
  pub step : ℕ
  pub call : StepCall
  pub in_call : InCall plan history leg step call

-- What a play that was not stopped leaves, and one that was stopped so.
abbrev pub Leaves : Plan → List Entry → Option PlayStop → Type 0
Leaves plan history None = HasEnded plan history
Leaves plan history (Some PlayStop.Host) = IsLeftInCall plan history
Leaves plan history (Some PlayStop.Mismatch) = Unit {0}
Leaves plan history (Some PlayStop.Memory) = Unit {0}
Leaves plan history (Some PlayStop.Workers) = ⊥

-- ---- what the code answers on the way

-- why a play was stopped, if it was; else it left a plan in play
abbrev pub stop_of : Result Play PlayStop → Option PlayStop
stop_of (Ok left) = None
stop_of (Err stop) = Some stop

-- A play that was not stopped left the board after its history.
abbrev pub LeavesBoard : Plan → List Entry → Result Play PlayStop → Type 0
LeavesBoard plan history (Ok left) = after plan history ≡ Some left.board
LeavesBoard plan history (Err stop) = Unit {0}

-- A play came to its end, and left the board after its history.
pub record EndsPlayed (plan : Plan) (workers : ℕ) (come : Played) : Type 0 where
  pub played : IsPlayed plan workers come.history
  pub ended : HasEnded plan come.history
  pub left : after plan come.history ≡ Some come.left.board

-- What was played until a play was stopped: where there are not so many workers, nothing was.
abbrev pub StopsPlayed : Plan → ℕ → PoolFault → Type 0
StopsPlayed plan workers PoolFault.Workers = AreNoWorkers workers
StopsPlayed plan workers (PoolFault.Host leg step fault history) = IsPlayed plan workers history × IsLeftInCall plan history
StopsPlayed plan workers (PoolFault.Mismatch history) = IsPlayed plan workers history
StopsPlayed plan workers (PoolFault.Memory history) = IsPlayed plan workers history

-- What was played by so many workers, with the board that is left of it.
pub record IsPlaying (plan : Plan) (workers : ℕ) (playing : Playing) : Type 0 where
  pub played : IsPlayed plan workers playing.history
  pub leaves : Leaves plan playing.history (stop_of playing.end)
  pub left : LeavesBoard plan playing.history playing.end

-- What comes of a play by so many workers: what was played, or nothing, where there are not so many.
abbrev pub ComesTo : Plan → ℕ → Option Playing → Type 0
ComesTo plan workers (Some playing) = IsPlaying plan workers playing
ComesTo plan workers None = AreNoWorkers workers

-- These entries were accepted in what was played; none, where there are not so many workers.
abbrev pub WereAcceptedIn : Option Playing → List Entry → Type 0
WereAcceptedIn (Some playing) es = WereAccepted playing.history (stop_of playing.end) es
WereAcceptedIn None es = es ≡ []

-- A recorder was told of exactly these.
abbrev pub WasToldPlay : (List Entry → Type 0) → Option Playing → Type 0
WasToldPlay told come = (es : List Entry) × told es × WereAcceptedIn come es
