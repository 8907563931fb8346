use Rattle.status_table.proofs.Ended.{stays-same}
use Rattle.status_table.proofs.plain_board.PlainBoardReversible.advance_with_undo.Goals as goal

pub returns-in_err-before-clause-ended_stays : goal.returns-in_err-before-clause-ended_stays
returns-in_err-before-clause-ended_stays c = stays-same c.args.self.now.board
