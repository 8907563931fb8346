-- A plan in play, with the board to which what was changed leads back.
use Rattle.std.specs.Prelude.{ℕ}
use Rattle.status_table.specs.Words.{Board, Plan, Play}

-- A plan and its board; the board to which the changes lead back; and how many more changes there is room for.
pub record Track : Type 0 where
  pub plan : Plan
  pub board : Board
  pub back : Board
  pub room : ℕ

-- the plan and its board alone
abbrev pub play_of : Track → Play
play_of t = record { plan = t.plan; board = t.board }
