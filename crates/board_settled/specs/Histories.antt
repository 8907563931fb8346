-- Histories of a plan in play: none of the entries is refused, none tells a run to stop, and each call is
-- answered as said.
use Rattle.std.specs.Prelude.{◌≡◌, ℕ, List, take, Option, Some, slice_get}
use Rattle.status_table.specs.Words.{Board, Entry, Event, Plan, StepCall, after, open_call}
use Rattle.board_settled.specs.Settled.{Answers}

-- An event is no Cancel, and where it is an End, its answer is the one to the call of its leg that is open.
abbrev pub IsAnswered : Answers → (ℕ → Option StepCall) → Event → Type 0
IsAnswered answers calls (Event.End l answer) = (call : StepCall) → calls l ≡ Some call → answers call ≡ Some answer
IsAnswered answers calls (Event.Cancel r) = ⊥
IsAnswered answers calls (Event.Open r) = Unit {0}
IsAnswered answers calls (Event.Judge j) = Unit {0}
IsAnswered answers calls (Event.Ask l) = Unit {0}
IsAnswered answers calls (Event.Drop l) = Unit {0}
IsAnswered answers calls (Event.Take l) = Unit {0}
IsAnswered answers calls (Event.Begin l) = Unit {0}
IsAnswered answers calls (Event.Finish l) = Unit {0}
IsAnswered answers calls (Event.Close r) = Unit {0}

-- A list of entries leads to a board, without Cancel, and with these answers to its calls.
pub record LeadsTo (p : Plan) (answers : Answers) (es : List Entry) (b : Board) : Type 0 where
  pub leads : after p es ≡ Some b
  pub answered : (k : ℕ) (e : Entry) → slice_get es k ≡ Some e
      → IsAnswered answers (open_call p (take k es)) e.event
