-- What a play comes to where nothing rests on the order of events.
use Rattle.std.specs.Prelude.{◌≡◌, ◌⊎◌, ℕ, Some}
use Rattle.status_table.specs.Words.{Answer, Board, IsPlan, Plan, StepCall, after}
use Rattle.board_settled.specs.Agrees.{IsSettled}
use Rattle.board_settled.specs.Free.{IsFree}
use Rattle.board_settled.specs.Settled.{Answers, settled}
use Rattle.worker_pool.specs.Alone.{EndsAlone}
use Rattle.worker_pool.specs.Entries.{AdmitsOne}
use Rattle.worker_pool.specs.Many.{EndsByMany}
use Rattle.worker_pool.specs.declared.played.Ending.{Ending}
use Rattle.worker_pool.specs.declared.played.Played.{Played}

-- A host admits at most one answer to each call, which is this.
abbrev pub AdmitsOnly : (StepCall → Answer → Type 0) → Answers → Type 0
AdmitsOnly admits answers = (call : StepCall) (answer : Answer) → admits call answer → answers call ≡ Some answer

-- Where nothing rests on the order of events in a plan, and a host admits at most one answer to each call, a play that is
-- Done leaves a board that is all of what is settled.
abbrev pub SettlesAll : (StepCall → Answer → Type 0) → Plan → Played → Type 0
SettlesAll admits p played =
    IsFree p → (answers : Answers) → AdmitsOnly admits answers → played.ending ≡ Ending.Done
    → (b : Board) → after p played.history ≡ Some b → IsSettled (settled p answers) b

-- A play by any number of workers does so.
abbrev pub ManySettle : (StepCall → Answer → Type 0) → Type 0
ManySettle admits =
    (p : Plan) (workers : ℕ) (played : Played) → IsPlan p → EndsByMany admits p workers played
    → SettlesAll admits p played

-- And so does a play by one thread.
abbrev pub OneSettles : (StepCall → Answer → Type 0) → Type 0
OneSettles admits =
    (p : Plan) (played : Played) → IsPlan p → EndsAlone admits p played → SettlesAll admits p played

-- ---- hosts that admit one answer to a call at most

-- A play of a plan that came to its end, by one thread or by several workers.
pub record IsDone (admits : StepCall → Answer → Type 0) (p : Plan) (played : Played) : Type 0 where
  pub ends : EndsAlone admits p played ⊎ ((workers : ℕ) × EndsByMany admits p workers played)
  pub done : played.ending ≡ Ending.Done

-- Where nothing rests on the order of events in a plan, and a host admits at most one answer to each call, two plays that are
-- Done leave the same runs, with all their jobs and legs.
abbrev pub PlaysAgree : (StepCall → Answer → Type 0) → Type 0
PlaysAgree admits =
    (p : Plan) (one other : Played) → IsPlan p → IsFree p → AdmitsOne admits → IsDone admits p one → IsDone admits p other
    → one.left.board.runs ≡ other.left.board.runs

-- What is settled by answers that the host admits is all of the board.
pub record SettlesBy (admits : StepCall → Answer → Type 0) (p : Plan) (b : Board) : Type 0 where
  pub answers : Answers
  pub admitted : (call : StepCall) (answer : Answer) → answers call ≡ Some answer → admits call answer
  pub settles : IsSettled (settled p answers) b

-- Each such play leaves such a board.
abbrev pub EachSettles : (StepCall → Answer → Type 0) → Type 0
EachSettles admits =
    (p : Plan) (played : Played) → IsPlan p → IsFree p → AdmitsOne admits → IsDone admits p played → SettlesBy admits p played.left.board
