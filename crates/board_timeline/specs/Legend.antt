-- What stands above and behind the rows: the legend, and lines of the record.
use Rattle.std.specs.Prelude.{ℕ, ◌+◌, ◌-◌, ◌/◌, ◌++◌, List, codes}
use Rattle.board_timeline.specs.Bars.{shape}
use Rattle.board_timeline.specs.Frames.{place_of, rows_top}
use Rattle.board_timeline.specs.Words.{numbered}
use Rattle.board_timeline.specs.declared.shape.Font.{Font}
use Rattle.board_timeline.specs.declared.shape.Frame.{Frame}
use Rattle.board_timeline.specs.declared.shape.ShapeKind.TheVariants.{Bar, Label}
use Rattle.board_timeline.specs.declared.shape.Look.{Look}
use Rattle.board_timeline.specs.declared.shape.Shape.{Shape}

abbrev pub frame_of : ℕ → ℕ → ℕ → ℕ → Frame
frame_of left top width height = record { left = left; top = top; width = width; height = height }

abbrev pub label : Font → ℕ → ℕ → List ℕ → List Shape
label font left top text = shape (Label font) (frame_of left top 0 0) text

-- ---- the legend

abbrev pub key_bar : ℕ → ℕ → Look → List ℕ → List Shape
key_bar left top look words = shape (Bar look) (frame_of left top 12 10) words

-- A bar, and what it stands for.
unfoldable pub key : ℕ → ℕ → Look → List ℕ → List Shape
key left top look words = key_bar left top look words ++ label Font.Note (left + 18) (top + 9) words

abbrev pub phase_keys : List Shape
phase_keys =
    key 12 8 Look.Waiting (codes "waiting for its group")
    ++ key 230 8 Look.Admitted (codes "admitted")
    ++ key 360 8 Look.Going (codes "going, with a worker")

abbrev pub end_keys : List Shape
end_keys =
    key 12 26 Look.Success (codes "success")
    ++ key 110 26 Look.Failure (codes "failure")
    ++ key 208 26 Look.Passed (codes "failure that counts as none")
    ++ key 440 26 Look.Cancelled (codes "cancelled")

abbrev pub step_keys : List Shape
step_keys =
    key 560 8 Look.Calling (codes "a call not answered")
    ++ key 560 26 Look.Skipped (codes "skipped")

abbrev pub mark_keys : List Shape
mark_keys =
    key 740 8 Look.Told (codes "told to stop")
    ++ key 740 26 Look.Displaced (codes "displaced")

abbrev pub legend : List Shape
legend = phase_keys ++ end_keys ++ step_keys ++ mark_keys

-- ---- lines of the record

-- Where the labels of lines have their base line.
abbrev pub line_base : ℕ
line_base = 58

-- A line, from above the rows down to their end.
unfoldable pub line_shapes : ℕ → ℕ → ℕ → List Shape
line_shapes lines line bottom =
    shape (Bar Look.Line) (frame_of (place_of lines line) rows_top 1 (bottom - rows_top)) (numbered (codes "line ") line)
    ++ label Font.Note (place_of lines line) line_base (numbered (codes "line ") line)

-- The first of them, one in the middle, and the last.
abbrev pub lines_shapes : ℕ → ℕ → List Shape
lines_shapes lines bottom =
    line_shapes lines 1 bottom ++ line_shapes lines ((lines - 1) / 2 + 1) bottom ++ line_shapes lines lines bottom
