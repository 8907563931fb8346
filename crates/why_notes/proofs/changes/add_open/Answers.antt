use Rattle.status_table.specs.Words.{run_entrance, run_seen}
use Rattle.why_notes.proofs.changes.add_open.Goals as goal
use Rattle.flat_board.proofs.Named.{given_named, run_asks}

pub add_entered-requires : goal.add_entered-requires
add_entered-requires c =
    let at = run_seen c.in-Some.at in given_named c.run_entrance-group.result (run_entrance at) c.run_entrance-group.ensures (run_asks at)
