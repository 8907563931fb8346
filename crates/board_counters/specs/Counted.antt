-- All that is kept beside a board: counts, and what stays.
use Rattle.std.specs.Prelude.{◌≡◌, Bool, List, map}
use Rattle.status_table.specs.Words.{Board, Plan}
use Rattle.board_counters.specs.Counters.{tallies_of, needs_of}
use Rattle.board_counters.specs.Failing.{failing_of}
use Rattle.board_counters.specs.Lasting.{IsLasting}
use Rattle.board_counters.specs.Standing.{run_tally}
use Rattle.board_counters.specs.Stopping.{run_legs}
use Rattle.board_counters.specs.declared.counts.Counts.{Counts}
use Rattle.board_counters.specs.declared.lasting.Lasting.{Lasting}

-- The counts follow from the plan and the board.
pub record AreCounts (p : Plan) (b : Board) (counts : Counts) : Type 0 where
  pub tallied : counts.tallies ≡ tallies_of b
  pub stand : counts.runs ≡ map run_tally b.runs
  pub told : counts.legs ≡ map run_legs b.runs
  pub needed : counts.needs ≡ needs_of p.runs b.runs

-- So do which legs have a failed step, and what stays.
pub record IsCounted (p : Plan) (b : Board) (counts : Counts) (failing : List (List (List Bool))) (lasting : Lasting) : Type 0 where
  pub counted : AreCounts p b counts
  pub failed : failing ≡ failing_of b
  pub lasts : IsLasting p b lasting
