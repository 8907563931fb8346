use Rattle.std.proofs.Common.{◌≡◌, drop}
use Rattle.std.specs.List.{list_all}
use Rattle.status_table.specs.Words.{is_closed}
use Rattle.locked_board.proofs.clerk.is_finished.Given as goal

-- what is left tells it all
abbrev pub invariant-loop-run : goal.invariant-loop-run
invariant-loop-run l =
    list_all (λ run. is_closed run.state) (drop l.run-index l.runs) ≡ list_all (λ run. is_closed run.state) l.runs
