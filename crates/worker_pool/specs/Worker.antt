-- What a play begins with, and what a worker keeps while it plays: its pass, and what it logs.
use Rattle.std.specs.Prelude.{◌≡◌, ℕ, ◌+◌, ◌≤◌, List, [], ◌∷◌, Vec, vec_len, vec_capacity}
use Rattle.std.specs.Global.{Global}
use Rattle.status_table.specs.Words.{Answer, StepCall}
use Rattle.ready_queue.specs.Passes.{TicketQueue, IsPassOf, records_of}
use Rattle.ready_queue.specs.Names.{Name}
use Rattle.ready_queue.specs.Records.{IsWhole, KeepsNames, keepers}
use Rattle.ready_queue.specs.declared.pass.Pass.{Pass}
use Rattle.worker_pool.specs.Log.{Answered, HasSameCalls}
use Rattle.worker_pool.specs.declared.many.Room.{Room}
use Rattle.worker_pool.specs.declared.many.Start.{Start}
use Rattle.worker_pool.specs.declared.worker.Worker.{Worker}

-- A pass is one of the queue, and keeps the names that it had.
pub record KeepsPass (queue : TicketQueue) (old new : Pass) : Type 0 where
  pub of_queue : IsPassOf queue new
  pub names : KeepsNames (records_of old) (records_of new)

module _ {N : Type 0} where
  -- A worker is fit to play: its pass is one of the queue, and its host admits each answer for the call that it logged beside it.
  pub record IsFit (admits : StepCall → Answer → Type 0) (queue : TicketQueue) (worker : Worker N) : Type 0 where
    pub pass : IsPassOf queue worker.pass
    pub answered : Answered admits worker.log.entries.items worker.log.calls.items

  -- It is so still, and its pass keeps the names that it had.
  pub record StaysFit (admits : StepCall → Answer → Type 0) (queue : TicketQueue) (old new : Worker N) : Type 0 where
    pub fit : IsFit admits queue new
    pub names : KeepsNames (records_of old.pass) (records_of new.pass)

  -- No answer and no call more is logged, and the pass keeps the names that it had.
  pub record LogsNoCall (queue : TicketQueue) (old new : Worker N) : Type 0 where
    pub pass : KeepsPass queue old.pass new.pass
    pub log : HasSameCalls old.log new.log

  -- how many passes of some workers keep a name
  abbrev pub crew_keepers : Name → List (Worker N) → ℕ
  crew_keepers name [] = 0
  crew_keepers name (w ∷ ws) = keepers name (records_of w.pass) + crew_keepers name ws

-- There is nothing yet, and room for so many.
abbrev pub HasRoomFor : {X : Type 0} → ℕ → Vec X Global → Type 0
HasRoomFor n xs = (xs.items ≡ []) × (n ≤ vec_capacity xs)

-- So many workers have all but a board: no pass is out but the first, and there is room for them, and for what each of them logs.
pub record HasRoom {N : Type 0} (workers : ℕ) (room : Room N) : Type 0 where
  pub pass : IsPassOf room.queue room.pass
  pub whole : IsWhole (records_of room.pass)
  pub crew : HasRoomFor workers room.crew
  pub entries : HasRoomFor workers room.logs.entries
  pub calls : HasRoomFor workers room.logs.calls

module _ {N T U W : Type 0} where
  -- So many workers can begin: there is a share for each, no pass is out but the first, and there is room for the workers, and for
  -- what each of them logs.
  pub record IsReady (workers : ℕ) (start : Start N T U W) : Type 0 where
    pub shares : vec_len start.shares ≡ workers
    pub pass : IsPassOf start.pool.queue start.pass
    pub whole : IsWhole (records_of start.pass)
    pub crew : HasRoomFor workers start.crew
    pub entries : HasRoomFor workers start.logs.entries
    pub calls : HasRoomFor workers start.logs.calls
