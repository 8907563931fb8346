use Rattle.std.proofs.Common.{sym}
use Rattle.status_table.specs.Words.{board_legs}
use Rattle.worker_pool.proofs.Firsts.{run_found, run_passed}
use Rattle.worker_pool.proofs.lowest.first_of_board.Goals as goal

pub returns-in-Ok : goal.returns-in-Ok
returns-in-Ok c =
    sym (run_found (board_legs c.args.board.now) c.as_slice-runs.result.now c.loop-run.run-index c.run-item.result c.as_slice.result.now c.loop-run.number c.in-Ok.found
    c.loop-run-test.true c.run-item.is c.as_slice.ensures c.loop-run.invariant.0 c.in-Ok.ensures.found)

pub loop-run-preserved : goal.loop-run-preserved
loop-run-preserved c =
    run_passed (board_legs c.args.board.now) c.as_slice-runs.result.now c.loop-run.run-index c.run-item.result c.as_slice.result.now c.loop-run.number c.in-Err.next
    c.loop-run-test.true c.run-item.is c.as_slice.ensures c.loop-run.invariant c.in-Err.ensures.none c.in-Err.ensures.next
