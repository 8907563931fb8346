use Rattle.std.proofs.Common.{subst}
use Rattle.flat_board.specs.Words.{IsNamed, Play}
use Rattle.flat_board.proofs.Known.{board_named}
use Rattle.flat_board.proofs.flat_board.FlatBoard.board.Goals as goal

pub returns-clause-named : goal.returns-clause-named
returns-clause-named c = subst (λ (s : Play). IsNamed s.board) c.self.view_is (board_named c.self.inside.play.groups c.self.inside.play.state.board c.self.invariant.names)
