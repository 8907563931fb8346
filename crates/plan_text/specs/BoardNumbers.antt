-- The numbers in the text of a board: each run, job and leg is shown with its place among all of its kind.
use Rattle.std.specs.Prelude.{◌≡◌, ℕ, suc, List, [], ◌∷◌, ◌++◌}
use Rattle.std.specs.List.{flat_map}
use Rattle.flow_model.specs.Numbers.{board_jobs, board_legs}
use Rattle.flow_model.specs.declared.board.Board.{Board}
use Rattle.flow_model.specs.declared.board.Run.{Run}
use Rattle.flow_model.specs.declared.board.Job.{Job}
use Rattle.flow_model.specs.declared.board.Leg.{Leg}
use Rattle.plan_text.specs.BoardText.{run_line, job_line, leg_text, ends_line}

-- what a part of the text shows, and the number that it gives it
pub data Piece : Type 0 where
  run_piece : ℕ → Run → Piece
  job_piece : ℕ → Job → Piece
  leg_piece : ℕ → Leg → Piece

-- the lines of a piece
abbrev pub piece_text : Piece → List ℕ
piece_text (run_piece r run) = run_line r run
piece_text (job_piece j job) = job_line j job
piece_text (leg_piece l leg) = leg_text l leg

-- the run that a piece shows, if it does
abbrev pub shown_run : Piece → List (ℕ × Run)
shown_run (run_piece r run) = (r, run) ∷ []
shown_run (job_piece j job) = []
shown_run (leg_piece l leg) = []

-- the job that a piece shows, if it does
abbrev pub shown_job : Piece → List (ℕ × Job)
shown_job (run_piece r run) = []
shown_job (job_piece j job) = (j, job) ∷ []
shown_job (leg_piece l leg) = []

-- the leg that a piece shows, if it does
abbrev pub shown_leg : Piece → List (ℕ × Leg)
shown_leg (run_piece r run) = []
shown_leg (job_piece j job) = []
shown_leg (leg_piece l leg) = (l, leg) ∷ []

-- each with its number, from this one on
abbrev pub numbered : {A : Type 0} → ℕ → List A → List (ℕ × A)
numbered n [] = []
numbered n (x ∷ xs) = (n, x) ∷ numbered (suc n) xs

-- A text is pieces and then the ends, and what the pieces show is all runs, all jobs and all legs of the board, each
-- kind in its order and numbered from 0.
pub record NumbersByPlace (b : Board) (text : List ℕ) : Type 0 where
  pub pieces : List Piece
  pub whole : text ≡ flat_map piece_text pieces ++ ends_line b.ends
  pub runs : flat_map shown_run pieces ≡ numbered 0 b.runs
  pub jobs : flat_map shown_job pieces ≡ numbered 0 (board_jobs b)
  pub legs : flat_map shown_leg pieces ≡ numbered 0 (board_legs b)
