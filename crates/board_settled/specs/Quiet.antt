-- A board as it is, but that no run on it is told to stop, and that its legs ended in the order of their numbers.
use Rattle.std.specs.Prelude.{ℕ, Bool, false, List, length, option_map}
use Rattle.std.specs.List.{filter}
use Rattle.status_table.specs.Words.{Board, Run, board_legs, holds, is_ended, numbered_leg, numbers}

-- The leg with a number is Ended.
abbrev pub has_ended_at : Board → ℕ → Bool
has_ended_at b l = holds (option_map (λ leg. is_ended leg.state) (numbered_leg b l))

-- The numbers of the legs that are Ended, in their order.
abbrev pub ended_in_order : Board → List ℕ
ended_in_order b = filter (has_ended_at b) (numbers (length (board_legs b)))

-- A run that was not told to stop.
abbrev pub quiet_run : Run → Run
quiet_run run = record run { stop = false }
