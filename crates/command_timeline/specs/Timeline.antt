-- What `actrun timeline` tells of a record: the picture of how each run, job and leg stood along its lines, with the exit status that
-- tells how the runs ended; or why there is none.
use Rattle.std.specs.Prelude.{◌≡◌, ◌+◌, ℕ, List, length, Some, Result, Ok, Err}
use Rattle.status_table.specs.Words.{Board, Entry, Plan, Play, after}
use Rattle.board_timeline.specs.Layout.{sheet}
use Rattle.board_timeline.specs.Played.{track_of}
use Rattle.board_timeline.specs.declared.layout.Sheet.{Sheet}
use Rattle.board_timeline.specs.declared.noted.Track.{Track}
use Rattle.board_timeline.specs.Picture.{picture}
use Rattle.command_io.specs.Records.{IsStopped, OfRecord, TellsShown}
use Rattle.command_io.specs.Runs.{runs_status}
use Rattle.command_io.specs.Stream.{Stream}
use Rattle.command_io.specs.Tell.{Printed}
use Rattle.command_io.specs.declared.error.CommandError.{CommandError}

-- ---- what a text comes to

-- The picture of a sheet.
abbrev pub sheet_text : Sheet → List ℕ
sheet_text s = picture s.width s.height s.shapes

-- The picture of what was noted of a record of so many lines.
abbrev pub timeline_text : Plan → Track → ℕ → List ℕ
timeline_text plan track lines = sheet_text (sheet plan track lines)

-- The picture of what is noted of entries, which are legal, and the status of the board after them.
pub record IsDrawn (shown : List ℕ) (status : ℕ) (plan : Plan) (entries : List Entry) : Type 0 where
  pub board : Board
  pub track : Track
  pub leads : after plan entries ≡ Some board
  pub notes : track_of plan entries ≡ Some track
  pub shows : shown ≡ timeline_text plan track (length entries + 1)
  pub tells : status ≡ runs_status board

-- The picture of a text, and the status that goes with it.
abbrev pub ShowsTimeline : List ℕ → List ℕ → ℕ → Type 0
ShowsTimeline text shown status = OfRecord text (IsDrawn shown status)

-- What `timeline` leaves: it reads a text to its end, and tells an answer to it; want of memory may always be answered.
abbrev pub TimelineTells : Stream → Stream → Stream → Stream → Stream → Stream → ℕ → Type 0
TimelineTells = TellsShown ShowsTimeline

-- ---- what the code answers on the way; want of memory may always be answered

-- The plan in play after entries with what was noted, or that the table refuses one of them.
pub record IsNoted (plan : Plan) (entries : List Entry) (play : Play) (track : Track) : Type 0 where
  pub leads : after plan entries ≡ Some play.board
  pub notes : track_of plan entries ≡ Some track

abbrev pub GivesNoted : Plan → List Entry → Result (Play × Track) CommandError → Type 0
GivesNoted plan entries (Ok both) = IsNoted plan entries both.0 both.1
GivesNoted plan entries (Err error) = IsStopped plan entries error

-- The picture of a plan and entries.
abbrev pub GivesDrawn : Plan → List Entry → Result Printed CommandError → Type 0
GivesDrawn plan entries (Ok both) = IsDrawn both.0.items both.1 plan entries
GivesDrawn plan entries (Err error) = IsStopped plan entries error
