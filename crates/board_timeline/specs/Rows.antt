-- What is noted of a run, a job or a leg, and of many by their numbers.
use Rattle.std.specs.Prelude.{ℕ, zero, suc, ◌==◌, ◌++◌, if◌then◌else◌, List, [], ◌∷◌, Option, Some, None}
use Rattle.status_table.specs.Words.{changed}
use Rattle.board_timeline.specs.declared.phase.Phase.{Phase}
use Rattle.board_timeline.specs.declared.row.Row.{Row}

-- ---- one row

-- Nothing was noted since the plan's line.
abbrev pub new_row : Row
new_row = record { moments = []; since = 1; told = None; displaced = None }

abbrev pub new_rows : ℕ → List Row
new_rows zero = []
new_rows (suc n) = new_row ∷ new_rows n

-- With the entry of a line it came to stand so.
abbrev pub moment_added : ℕ → Phase → Row → Row
moment_added line phase row =
    record row { moments = row.moments ++ record { line = line; phase = phase } ∷ []; since = line }

-- With the entry of a line it came to stand so, unless something was noted of that line before.
abbrev pub row_seen : ℕ → Phase → Row → Row
row_seen line phase row = if row.since == line then row else moment_added line phase row

-- The first line tells.
abbrev pub first_told : ℕ → Option ℕ → Option ℕ
first_told line None = Some line
first_told line (Some before) = Some before

-- It was told to stop.
abbrev pub row_told : ℕ → Row → Row
row_told line row = record row { told = first_told line row.told }

-- It was displaced.
abbrev pub row_displaced : ℕ → Row → Row
row_displaced line row = record row { displaced = Some line }

-- ---- the row with a number, where there is one

abbrev pub seen : ℕ → Phase → ℕ → List Row → List Row
seen line phase number rows = changed rows number (row_seen line phase)

abbrev pub told : ℕ → ℕ → List Row → List Row
told line number rows = changed rows number (row_told line)

abbrev pub displaced : ℕ → ℕ → List Row → List Row
displaced line number rows = changed rows number (row_displaced line)
