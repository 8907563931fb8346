use Rattle.std.proofs.Common.{◌≡◌, ◌++◌, take}
use Rattle.std.specs.List.{flat_map}
use Rattle.board_timeline.specs.Noted.{job_rows}
use Rattle.board_timeline.proofs.noted.add_job_rows.Given as goal

abbrev pub invariant-loop-run : goal.invariant-loop-run
invariant-loop-run l = l.rows.items ≡ l.initial.rows.items ++ flat_map job_rows (take l.run-index l.runs)
