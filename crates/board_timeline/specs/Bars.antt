-- The bars and marks of a row: a bar from each moment to the next, and a mark where something ended, and where a step is done
-- without a call.
use Rattle.std.specs.Prelude.{ℕ, ◌+◌, ◌++◌, Bool, true, false, if◌then◌else◌, List, [], ◌∷◌, codes, Option, Some, None}
use Rattle.status_table.specs.Words.{Outcome, StepPlan}
use Rattle.board_timeline.specs.Frames.{bar_frame, lane_frame, mark_frame}
use Rattle.board_timeline.specs.Phases.{is_over}
use Rattle.board_timeline.specs.Words.{bar_text, last_phase, mark_text, note_text, row_text}
use Rattle.board_timeline.specs.declared.bars.Strip.{Strip}
use Rattle.board_timeline.specs.declared.frames.Lane.{Lane}
use Rattle.board_timeline.specs.declared.phase.Moment.{Moment}
use Rattle.board_timeline.specs.declared.phase.Phase.{Phase}
use Rattle.board_timeline.specs.declared.phase.Phase.TheVariants.{Fresh, Waiting, Admitted, Going, Taken, Calling, Done, Shut, Ended}
use Rattle.board_timeline.specs.declared.row.Row.{Row}
use Rattle.board_timeline.specs.declared.shape.Frame.{Frame}
use Rattle.board_timeline.specs.declared.shape.ShapeKind.{ShapeKind}
use Rattle.board_timeline.specs.declared.shape.ShapeKind.TheVariants.{Bar}
use Rattle.board_timeline.specs.declared.shape.Look.{Look}
use Rattle.board_timeline.specs.declared.shape.Shape.{Shape}

-- A row: where it stands, what it is for, and the steps of its job.
pub record StripAt : Type 0 where
  pub lane : Lane
  pub name : List ℕ
  pub steps : List StepPlan

abbrev pub strip_seen : Strip → StripAt
strip_seen strip = record { lane = strip.lane; name = strip.name.now; steps = strip.steps.now }

-- One shape.
abbrev pub shape : ShapeKind → Frame → List ℕ → List Shape
shape kind frame text = record { kind = kind; frame = frame; text = text } ∷ []

-- ---- looks

abbrev pub outcome_look : Outcome → Look
outcome_look Outcome.Success = Look.Success
outcome_look Outcome.Failure = Look.Failure
outcome_look Outcome.Cancelled = Look.Cancelled
outcome_look Outcome.Skipped = Look.Skipped

-- A failure that is passed over counts as a success.
abbrev pub step_look : Outcome → Outcome → Look
step_look Outcome.Success conclusion = Look.Success
step_look Outcome.Failure Outcome.Success = Look.Passed
step_look Outcome.Failure Outcome.Failure = Look.Failure
step_look Outcome.Failure Outcome.Cancelled = Look.Failure
step_look Outcome.Failure Outcome.Skipped = Look.Failure
step_look Outcome.Cancelled conclusion = Look.Cancelled
step_look Outcome.Skipped conclusion = Look.Skipped

abbrev pub end_look : Outcome → Bool → Look
end_look how true = Look.Passed
end_look how false = outcome_look how

abbrev pub call_look : Option Phase → Look
call_look None = Look.Calling
call_look (Some Fresh) = Look.Calling
call_look (Some Waiting) = Look.Calling
call_look (Some Admitted) = Look.Calling
call_look (Some Going) = Look.Calling
call_look (Some Taken) = Look.Calling
call_look (Some (Calling step)) = Look.Calling
call_look (Some (Done step outcome conclusion)) = step_look outcome conclusion
call_look (Some (Shut how)) = Look.Calling
call_look (Some (Ended how tolerated)) = Look.Calling

-- A call looks as the step that it became. What a worker has of a leg is one bar for all of it.
abbrev pub bar_look : Phase → Option Phase → Option Look
bar_look Fresh after = None
bar_look Waiting after = Some Look.Waiting
bar_look Admitted after = Some Look.Admitted
bar_look Going after = Some Look.Going
bar_look Taken after = None
bar_look (Calling step) after = Some (call_look after)
bar_look (Done step outcome conclusion) after = None
bar_look (Shut how) after = None
bar_look (Ended how tolerated) after = None

abbrev pub is_calling : Phase → Bool
is_calling Fresh = false
is_calling Waiting = false
is_calling Admitted = false
is_calling Going = false
is_calling Taken = false
is_calling (Calling step) = true
is_calling (Done step outcome conclusion) = false
is_calling (Shut how) = false
is_calling (Ended how tolerated) = false

abbrev pub mark_look : Phase → Phase → Option Look
mark_look before Fresh = None
mark_look before Waiting = None
mark_look before Admitted = None
mark_look before Going = None
mark_look before Taken = None
mark_look before (Calling step) = None
mark_look before (Done step outcome conclusion) = if is_calling before then None else Some (step_look outcome conclusion)
mark_look before (Shut how) = Some (outcome_look how)
mark_look before (Ended how tolerated) = Some (end_look how tolerated)

-- ---- bars and marks

-- A bar from a moment up to a line.
abbrev pub span : StripAt → Look → Moment → ℕ → Option Phase → List Shape
span strip look from to after =
    shape (Bar look) (bar_frame strip.lane from.line to) (bar_text strip.name strip.steps from to after)

abbrev pub bar_looking : Option Look → StripAt → Moment → ℕ → Option Phase → List Shape
bar_looking None strip from to after = []
bar_looking (Some look) strip from to after = span strip look from to after

-- The bar of how something stood from a moment up to a line.
abbrev pub bar : StripAt → Moment → ℕ → Option Phase → List Shape
bar strip from to after = bar_looking (bar_look from.phase after) strip from to after

abbrev pub mark_looking : Option Look → StripAt → Moment → List Shape
mark_looking None strip moment = []
mark_looking (Some look) strip moment =
    shape (Bar look) (mark_frame strip.lane moment.line 4) (mark_text strip.name strip.steps moment)

-- The mark of a moment, before which something stood so.
abbrev pub mark : StripAt → Phase → Moment → List Shape
mark strip before moment = mark_looking (mark_look before moment.phase) strip moment

-- The bar up to a moment, and the mark of that.
abbrev pub bar_and_mark : StripAt → Moment → Moment → List Shape
bar_and_mark strip from moment =
    bar strip from moment.line (Some moment.phase) ++ mark strip from.phase moment

-- The bars and marks from a moment on; the last bar goes on to the end of the record.
abbrev pub bars : StripAt → Moment → List Moment → List Shape
bars strip from [] = bar strip from (strip.lane.lines + 1) None
bars strip from (moment ∷ moments) = bar_and_mark strip from moment ++ bars strip moment moments

-- With the plan's line nothing has begun.
abbrev pub first : Moment
first = record { line = 1; phase = Fresh }

-- ---- rows

-- The mark of what was done to a member.
abbrev pub note : StripAt → Look → List ℕ → Option ℕ → List Shape
note strip look words None = []
note strip look words (Some line) = shape (Bar look) (mark_frame strip.lane line 4) (note_text strip.name words line)

-- The bar on which those of a row stand.
abbrev pub lane : StripAt → Row → List Shape
lane strip row = shape (Bar Look.Lane) (lane_frame strip.lane) (row_text strip.name row)

abbrev pub is_taken : Phase → Bool
is_taken Fresh = false
is_taken Waiting = false
is_taken Admitted = false
is_taken Going = false
is_taken Taken = true
is_taken (Calling step) = false
is_taken (Done step outcome conclusion) = false
is_taken (Shut how) = false
is_taken (Ended how tolerated) = false

-- The line at which a worker took a leg.
abbrev pub taken_at : List Moment → Option ℕ
taken_at [] = None
taken_at (moment ∷ moments) = if is_taken moment.phase then Some moment.line else taken_at moments

abbrev pub taken : ℕ → Moment
taken line = record { line = line; phase = Taken }

-- Its worker has a leg from then on until it ends.
abbrev pub worker : StripAt → Row → ℕ → List Shape
worker strip row line =
    if is_over (last_phase row) then span strip Look.Going (taken line) row.since (Some (last_phase row))
    else span strip Look.Going (taken line) (strip.lane.lines + 1) None

abbrev pub worker_from : Option ℕ → StripAt → Row → List Shape
worker_from None strip row = []
worker_from (Some line) strip row = worker strip row line

-- What lies below the bars of a row.
abbrev pub bottom : StripAt → Row → List Shape
bottom strip row = lane strip row ++ worker_from (taken_at row.moments) strip row

-- All of a row.
abbrev pub row_shapes : StripAt → Row → List Shape
row_shapes strip row =
    bottom strip row ++ bars strip first row.moments
    ++ note strip Look.Told (codes "told to stop") row.told
    ++ note strip Look.Displaced (codes "displaced") row.displaced
