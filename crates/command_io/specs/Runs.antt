-- How runs ended, as an exit status.
use Rattle.std.specs.Prelude.{ℕ, Bool, true, false, not, if◌then◌else◌}
use Rattle.std.specs.List.{list_all}
use Rattle.status_table.specs.Words.{Board, Outcome, RunState, finished}

-- A run is Closed, and with success.
abbrev pub has_succeeded : RunState → Bool
has_succeeded RunState.New = false
has_succeeded RunState.Waiting = false
has_succeeded RunState.Going = false
has_succeeded (RunState.Closed Outcome.Success) = true
has_succeeded (RunState.Closed Outcome.Failure) = false
has_succeeded (RunState.Closed Outcome.Cancelled) = false
has_succeeded (RunState.Closed Outcome.Skipped) = false

-- The exit status that tells how the runs of a board ended: 4 where some run is not Closed, else 0 where all succeeded, and
-- 1 where one did not.
abbrev pub runs_status : Board → ℕ
runs_status b = if not (finished b) then 4 else if list_all (λ run. has_succeeded run.state) b.runs then 0 else 1
