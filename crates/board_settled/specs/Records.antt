-- The answers that a list of entries records, and what is settled by them.
use Rattle.std.specs.Prelude.{◌≡◌, ◌↔◌, ℕ, ◌==◌, ◌&&◌, Bool, IsTrue, List, [], ◌∷◌, Option, Some, None, if◌then◌else◌}
use Rattle.status_table.specs.Words.{Answer, Board, Entry, Plan, after}
use Rattle.board_settled.specs.Agrees.{IsSettled}
use Rattle.board_settled.specs.Settled.{Answers, settled}
use Rattle.step_host.specs.Replay.{recorded}
use Rattle.step_host.specs.Script.{Line}

-- The answer that is listed for a step of a leg, if there is one.
abbrev pub listed : List Line → ℕ → ℕ → Option Answer
listed [] leg step = None
listed (line ∷ lines) leg step = if (line.0 == leg) && (line.1 == step) then Some line.2 else listed lines leg step

-- The answers that a list of entries records: to a call the one for its step of its leg.
abbrev pub recorded_answers : Plan → List Entry → Answers
recorded_answers p es call = listed (recorded p es) call.leg call.step

-- It is told whether the board after a list of entries is all of what is settled by the answers that the list records.
abbrev pub TellsSettled : Plan → List Entry → Bool → Type 0
TellsSettled p es holds =
    (b : Board) → after p es ≡ Some b → IsTrue holds ↔ IsSettled (settled p (recorded_answers p es)) b
