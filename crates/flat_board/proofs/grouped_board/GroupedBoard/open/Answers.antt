use Rattle.flat_board.specs.Words.{run_entrance, run_seen}
use Rattle.flat_board.proofs.Named.{given_named, run_asks}
use Rattle.flat_board.proofs.grouped_board.GroupedBoard.open.Goals as goal

pub enter_run-requires-clause-named : goal.enter_run-requires-clause-named
enter_run-requires-clause-named c =
    let at = run_seen c.in-Some.at in given_named c.run_entrance-group.result (run_entrance at) c.run_entrance-group.ensures (run_asks at)
