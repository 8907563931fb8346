-- The rows of a plan, one under the other: each run, under it its jobs, and under each job its legs.
use Rattle.std.specs.Prelude.{ℕ, suc, ◌+◌, ◌-◌, ◌++◌, Bool, true, false, nat_le, if◌then◌else◌, List, [], ◌∷◌, length, codes, Option, Some, None, slice_get}
use Rattle.status_table.specs.Words.{JobPlan, Plain, Plan, RunPlan}
use Rattle.board_timeline.specs.Bars.{StripAt, row_shapes}
use Rattle.board_timeline.specs.Frames.{rows_top}
use Rattle.board_timeline.specs.Legend.{label, legend, lines_shapes}
use Rattle.board_timeline.specs.Words.{row_name, row_text}
use Rattle.board_timeline.specs.declared.frames.Lane.{Lane}
use Rattle.board_timeline.specs.declared.layout.Cursor.{Cursor}
use Rattle.board_timeline.specs.declared.layout.Sheet.{Sheet}
use Rattle.board_timeline.specs.declared.noted.Track.{Track}
use Rattle.board_timeline.specs.declared.row.Row.{Row}
use Rattle.board_timeline.specs.declared.shape.Font.{Font}
use Rattle.board_timeline.specs.declared.shape.Shape.{Shape}

-- ---- lengths

-- How wide a picture is, what is left free below the rows, and how far below the top of a row its label has its base line.
abbrev pub sheet_width : ℕ
sheet_width = 1410

abbrev pub margin : ℕ
margin = 10

abbrev pub base_line : ℕ
base_line = 11

-- How high the row of a run is, what is left free above it, and how far below its top the next row begins.
abbrev pub run_height : ℕ
run_height = 16

abbrev pub run_gap : ℕ
run_gap = 6

abbrev pub run_step : ℕ
run_step = 17

-- Likewise of a job.
abbrev pub job_height : ℕ
job_height = 14

abbrev pub job_gap : ℕ
job_gap = 4

abbrev pub job_step : ℕ
job_step = 15

-- How far below the top of a leg's row the next row begins, with labels and without, and the most legs of a job that have labels.
abbrev pub labelled_leg_step : ℕ
labelled_leg_step = 16

abbrev pub bare_leg_step : ℕ
bare_leg_step = 6

abbrev pub most_labelled : ℕ
most_labelled = 16

-- Where the labels of runs, jobs and legs begin.
abbrev pub run_left : ℕ
run_left = 8

abbrev pub job_left : ℕ
job_left = 16

abbrev pub leg_left : ℕ
leg_left = 28

-- ---- rows

-- A row with its label.
abbrev pub labelled : StripAt → Row → Font → ℕ → List Shape
labelled strip row font left =
    label font left (strip.lane.top + base_line) (row_text strip.name row) ++ row_shapes strip row

abbrev pub lane_at : ℕ → ℕ → ℕ → Lane
lane_at lines top height = record { lines = lines; top = top; height = height }

-- ---- legs

-- The legs of a job have labels where they are few.
abbrev pub are_labelled : ℕ → Bool
are_labelled count = nat_le count most_labelled

-- How far below the top of a leg's row the next row begins, of a job that has so many.
abbrev pub leg_step : ℕ → ℕ
leg_step count = if are_labelled count then labelled_leg_step else bare_leg_step

abbrev pub leg_row_by : Bool → StripAt → Row → List Shape
leg_row_by true strip row = labelled strip row Font.Leg leg_left
leg_row_by false strip row = row_shapes strip row

abbrev pub leg_row : StripAt → Row → ℕ → List Shape
leg_row strip row count = leg_row_by (are_labelled count) strip row

-- The strip of the leg with this number, from this height on.
abbrev pub leg_strip : ℕ → JobPlan → ℕ → ℕ → StripAt
leg_strip lines job l top = record {
  lane = lane_at lines top (leg_step (length job.legs) - 1);
  name = row_name (codes "leg ") l job.name;
  steps = job.steps;
}

abbrev pub noted_leg : ℕ → JobPlan → Cursor → Option Row → List Shape
noted_leg lines job at None = []
noted_leg lines job at (Some row) = leg_row (leg_strip lines job at.leg at.top) row (length job.legs)

abbrev pub leg_shapes : ℕ → List Row → JobPlan → Cursor → List Shape
leg_shapes lines rows job at = noted_leg lines job at (slice_get rows at.leg)

abbrev pub after_leg : Cursor → ℕ → Cursor
after_leg at count = record { leg = at.leg + 1; top = at.top + leg_step count }

-- The legs from one on.
abbrev pub legs_shapes : ℕ → List Row → JobPlan → Cursor → List (List (List ℕ × Plain)) → List Shape
legs_shapes lines rows job at [] = []
legs_shapes lines rows job at (leg ∷ legs) =
    leg_shapes lines rows job at ++ legs_shapes lines rows job (after_leg at (length job.legs)) legs

abbrev pub after_legs : JobPlan → Cursor → List (List (List ℕ × Plain)) → Cursor
after_legs job at [] = at
after_legs job at (leg ∷ legs) = after_legs job (after_leg at (length job.legs)) legs

-- ---- jobs

abbrev pub job_strip : ℕ → JobPlan → ℕ → StripAt
job_strip lines job top =
    record { lane = lane_at lines top job_height; name = row_name (codes "job ") job.number job.name; steps = [] }

abbrev pub noted_job : ℕ → JobPlan → ℕ → Option Row → List Shape
noted_job lines job top None = []
noted_job lines job top (Some row) = labelled (job_strip lines job top) row Font.Job job_left

abbrev pub job_row : ℕ → List Row → JobPlan → ℕ → List Shape
job_row lines rows job top = noted_job lines job top (slice_get rows job.number)

-- Below the row of a job, which stands a little apart.
abbrev pub below_job : Cursor → Cursor
below_job at = record { leg = at.leg; top = at.top + job_gap + job_step }

abbrev pub job_shapes : ℕ → Track → JobPlan → Cursor → List Shape
job_shapes lines track job at =
    job_row lines track.jobs job (at.top + job_gap) ++ legs_shapes lines track.legs job (below_job at) job.legs

abbrev pub after_job : Cursor → JobPlan → Cursor
after_job at job = after_legs job (below_job at) job.legs

-- The jobs from one on.
abbrev pub jobs_shapes : ℕ → Track → Cursor → List JobPlan → List Shape
jobs_shapes lines track at [] = []
jobs_shapes lines track at (job ∷ jobs) = job_shapes lines track job at ++ jobs_shapes lines track (after_job at job) jobs

abbrev pub after_jobs : Cursor → List JobPlan → Cursor
after_jobs at [] = at
after_jobs at (job ∷ jobs) = after_jobs (after_job at job) jobs

-- ---- runs

abbrev pub run_strip : ℕ → ℕ → RunPlan → ℕ → StripAt
run_strip lines r run top =
    record { lane = lane_at lines top run_height; name = row_name (codes "run ") r run.flow; steps = [] }

abbrev pub noted_run : ℕ → ℕ → RunPlan → ℕ → Option Row → List Shape
noted_run lines r run top None = []
noted_run lines r run top (Some row) = labelled (run_strip lines r run top) row Font.Run run_left

abbrev pub run_row : ℕ → List Row → ℕ → RunPlan → ℕ → List Shape
run_row lines rows r run top = noted_run lines r run top (slice_get rows r)

-- Below the row of a run, which stands a little apart.
abbrev pub below_run : Cursor → Cursor
below_run at = record { leg = at.leg; top = at.top + run_gap + run_step }

abbrev pub run_shapes : ℕ → Track → ℕ → RunPlan → Cursor → List Shape
run_shapes lines track r run at =
    run_row lines track.runs r run (at.top + run_gap) ++ jobs_shapes lines track (below_run at) run.jobs

abbrev pub after_run : Cursor → RunPlan → Cursor
after_run at run = after_jobs (below_run at) run.jobs

-- The runs from number r on.
abbrev pub runs_shapes : ℕ → Track → ℕ → Cursor → List RunPlan → List Shape
runs_shapes lines track r at [] = []
runs_shapes lines track r at (run ∷ runs) =
    run_shapes lines track r run at ++ runs_shapes lines track (suc r) (after_run at run) runs

abbrev pub after_runs : Cursor → List RunPlan → Cursor
after_runs at [] = at
after_runs at (run ∷ runs) = after_runs (after_run at run) runs

-- ---- the picture

abbrev pub first : Cursor
first = record { leg = 0; top = rows_top }

abbrev pub end_of : Plan → ℕ
end_of plan = (after_runs first plan.runs).top

abbrev pub sheet : Plan → Track → ℕ → Sheet
sheet plan track lines = record {
  width = sheet_width;
  height = end_of plan + margin;
  shapes = legend ++ runs_shapes lines track 0 first plan.runs ++ lines_shapes lines (end_of plan);
}
