use Rattle.board_settled.proofs.Named.{needs_are_direct}
use Rattle.board_settled.proofs.contexts.needs_are_direct.Goals as goal

pub returns : goal.returns
returns c = needs_are_direct
