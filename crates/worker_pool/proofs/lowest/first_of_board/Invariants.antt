use Rattle.std.proofs.Common.{drop, flat_map}
use Rattle.status_table.specs.Words.{board_legs}
use Rattle.worker_pool.proofs.Firsts.{Passed}
use Rattle.worker_pool.proofs.lowest.first_of_board.Given as goal

-- none of the legs of the runs before may be taken, and the number is that of the next leg
abbrev pub invariant-loop-run : goal.invariant-loop-run
invariant-loop-run l =
    Passed (board_legs l.board) (flat_map (λ job. job.legs) (flat_map (λ run. run.jobs) (drop l.run-index l.runs))) 0 l.number
