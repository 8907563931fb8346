-- To which board changes lead back.
use Rattle.std.specs.Prelude.{List, [], ◌∷◌}
use Rattle.status_table.specs.Words.{Board, job_state_set, leg_after, leg_state_set, with_leg, with_run}
use Rattle.board_counters.specs.Changes.{run_after, step_taken, unnoted}
use Rattle.board_counters.specs.declared.undo.Change.{Change}
use Rattle.board_counters.specs.declared.undo.OnlyChange.{OnlyChange}

-- the board before one change, by what takes it back
abbrev pub board_before : Change → Board → Board
board_before (Change.Leg place how) b = with_leg b place (leg_after how)
board_before (Change.Step place state) b = with_leg b place (step_taken state)
board_before (Change.Job place state) b = job_state_set b place state
board_before (Change.Run place how) b = with_run b place (run_after how)
board_before Change.End b = unnoted b

-- the board before a change that was the only one
abbrev pub only_before : OnlyChange → Board → Board
only_before (OnlyChange.State state place) b = leg_state_set b place state
only_before (OnlyChange.Step state place) b = with_leg b place (step_taken state)

-- The board before all of some changes: they are taken back in the opposite order, the last one first.
abbrev pub undone : List Change → Board → Board
undone [] b = b
undone (x ∷ xs) b = board_before x (undone xs b)
