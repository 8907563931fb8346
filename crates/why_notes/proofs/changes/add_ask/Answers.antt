use Rattle.status_table.specs.Words.{leg_entrance, leg_seen}
use Rattle.why_notes.proofs.changes.add_ask.Goals as goal
use Rattle.flat_board.proofs.Named.{given_named, leg_asks}

pub add_entered-requires : goal.add_entered-requires
add_entered-requires c =
    let at = leg_seen c.in-Some.at in given_named c.leg_entrance-group.result (leg_entrance at) c.leg_entrance-group.ensures (leg_asks at)
