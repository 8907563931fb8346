-- What is true of each plan in play with its groups beside it.
use Rattle.status_table.specs.Words.{InPlay, KeptAsShown, content}
use Rattle.flat_board.specs.Names.{NamesKnown}
use Rattle.flat_board.specs.declared.grouped_board.GroupedBoard.{GroupedBoard}

-- It is as every plan in play, its board shows the groups, and they know the names that stand on it.
pub record IsSound (play : GroupedBoard) : Type 0 where
  pub in_play : InPlay play.state.plan play.state.board
  pub kept : KeptAsShown (content play.groups) play.state.board
  pub names : NamesKnown play.groups play.state.board
