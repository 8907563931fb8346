use Rattle.board_settled.proofs.Named.{steps_are_done}
use Rattle.board_settled.proofs.contexts.steps_are_done.Goals as goal

pub returns : goal.returns
returns c = steps_are_done
