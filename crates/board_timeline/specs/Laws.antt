-- The moments of a row: they ascend, and lie within the record.
use Rattle.std.specs.Prelude.{◌≡◌, ◌<◌, ◌≤◌, ◌+◌, ℕ, List, [], ◌∷◌, length, Some}
use Rattle.status_table.specs.Words.{Entry, Plan}
use Rattle.board_timeline.specs.Played.{track_of}
use Rattle.board_timeline.specs.declared.noted.Track.{Track}
use Rattle.board_timeline.specs.declared.phase.Moment.{Moment}
use Rattle.board_timeline.specs.declared.row.Row.{Row}

-- Each comes at a later line than the one before, the first after this line, and the last is at that.
abbrev pub Ascend : ℕ → ℕ → List Moment → Type 0
Ascend after last [] = after ≡ last
Ascend after last (moment ∷ moments) = (after < moment.line) × Ascend moment.line last moments

-- Those of a row come after the plan's line, and none after this line.
abbrev pub IsWithin : ℕ → Row → Type 0
IsWithin line row = Ascend 1 row.since row.moments × (row.since ≤ line)

abbrev pub AreWithin : ℕ → List Row → Type 0
AreWithin line [] = Unit {0}
AreWithin line (row ∷ rows) = IsWithin line row × AreWithin line rows

pub record TrackIsWithin (line : ℕ) (track : Track) : Type 0 where
  pub runs : AreWithin line track.runs
  pub jobs : AreWithin line track.jobs
  pub legs : AreWithin line track.legs

-- The moments of each row that is noted of a record ascend, and lie within its lines. So of the bars of how something stood, each from a
-- moment to the next, none begins before the one before it ends.
abbrev pub MomentsAscend : Type 0
MomentsAscend = (plan : Plan) (entries : List Entry) (track : Track) → track_of plan entries ≡ Some track
    → TrackIsWithin (length entries + 1) track
