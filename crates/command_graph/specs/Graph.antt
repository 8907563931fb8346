-- What `actrun graph` tells of a text: the graph of its plan, or that of the board after its entries, with the exit status
-- that tells how the runs ended; or why there is none.
use Rattle.std.specs.Prelude.{◌≡◌, ℕ, List, [], ◌∷◌, Some, Result, Ok, Err}
use Rattle.status_table.specs.Words.{Board, Entry, Plan, after}
use Rattle.command_graph.specs.Dot.{board_graph, plan_graph}
use Rattle.command_io.specs.Records.{IsStopped, OfRecord, TellsShown}
use Rattle.command_io.specs.Runs.{runs_status}
use Rattle.command_io.specs.Stream.{Stream}
use Rattle.command_io.specs.Tell.{Printed}
use Rattle.command_io.specs.declared.error.CommandError.{CommandError}

-- ---- what a text comes to

-- The graph of the board after entries, which are legal, and the status of that board.
pub record DrawsBoard (plan : Plan) (entries : List Entry) (shown : List ℕ) (status : ℕ) : Type 0 where
  pub board : Board
  pub leads : after plan entries ≡ Some board
  pub shows : shown ≡ board_graph plan board
  pub tells : status ≡ runs_status board

-- A text that has no entries is its plan, which is drawn alone.
abbrev pub IsDrawn : List ℕ → ℕ → Plan → List Entry → Type 0
IsDrawn shown status plan [] = (shown ≡ plan_graph plan) × (status ≡ 0)
IsDrawn shown status plan (entry ∷ entries) = DrawsBoard plan (entry ∷ entries) shown status

-- The graph of a text, and the status that goes with it.
abbrev pub ShowsGraph : List ℕ → List ℕ → ℕ → Type 0
ShowsGraph text shown status = OfRecord text (IsDrawn shown status)

-- What `graph` leaves: it reads a text to its end, and tells an answer to it; want of memory may always be answered.
abbrev pub GraphTells : Stream → Stream → Stream → Stream → Stream → Stream → ℕ → Type 0
GraphTells = TellsShown ShowsGraph

-- ---- what the code answers on the way; want of memory may always be answered

-- The graph of the board after entries.
abbrev pub GivesBoard : Plan → List Entry → Result Printed CommandError → Type 0
GivesBoard plan entries (Ok both) = DrawsBoard plan entries both.0.items both.1
GivesBoard plan entries (Err error) = IsStopped plan entries error

-- The graph of a plan and entries.
abbrev pub GivesDrawn : Plan → List Entry → Result Printed CommandError → Type 0
GivesDrawn plan entries (Ok both) = IsDrawn both.0.items both.1 plan entries
GivesDrawn plan entries (Err error) = IsStopped plan entries error
