-- Where bars and marks stand: the lines of a record have a width together, of which each has a share, by whole numbers.
use Rattle.std.specs.Prelude.{ℕ, ◌+◌, ◌-◌, ◌*◌, ◌/◌, nat_lt, if◌then◌else◌}
use Rattle.board_timeline.specs.declared.frames.Lane.{Lane}
use Rattle.board_timeline.specs.declared.shape.Frame.{Frame}

-- Where bars begin, how wide the whole record is, and where the rows begin, below the legend.
abbrev pub chart_left : ℕ
chart_left = 430

abbrev pub chart_width : ℕ
chart_width = 900

abbrev pub rows_top : ℕ
rows_top = 62

-- So many lines of a record that has so many.
abbrev pub share : ℕ → ℕ → ℕ
share parts whole = parts * chart_width / whole

-- Where a line begins; the first is that of the plan.
abbrev pub place_of : ℕ → ℕ → ℕ
place_of lines line = chart_left + share (line - 1) lines

-- How wide a bar is, which is seen however short it is.
abbrev pub width_of : ℕ → ℕ → ℕ
width_of left right = if nat_lt left right then right - left else 1

-- From the beginning of a line to that of another.
abbrev pub bar_frame : Lane → ℕ → ℕ → Frame
bar_frame lane from to = record {
  left = place_of lane.lines from;
  top = lane.top;
  width = width_of (place_of lane.lines from) (place_of lane.lines to);
  height = lane.height;
}

-- At the beginning of a line.
abbrev pub mark_frame : Lane → ℕ → ℕ → Frame
mark_frame lane line width =
    record { left = place_of lane.lines line; top = lane.top; width = width; height = lane.height }

-- The whole record.
abbrev pub lane_frame : Lane → Frame
lane_frame lane = record { left = chart_left; top = lane.top; width = chart_width; height = lane.height }
