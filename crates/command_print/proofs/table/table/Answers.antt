use Rattle.command_print.proofs.BoardAnswers.{shown_answer}
use Rattle.command_io.proofs.Told.{read_told, unread_told}
use Rattle.command_print.specs.Table.{IsBoardAnswer}
use Rattle.command_io.specs.Tell.{answer_seen}
use Rattle.command_print.proofs.table.table.Goals as goal

pub returns-in-Ok : goal.returns-in-Ok
returns-in-Ok g c =
    let found = answer_seen c.shown_board.result in
    read_told IsBoardAnswer _ _ _ _ _ c.in-Ok.text.items found _ c.in-Ok.ensures
    (shown_answer c.in-Ok.text.items c.shown_board.result c.shown_board.ensures)
    c.tell.ensures

pub returns-in-Err : goal.returns-in-Err
returns-in-Err g c = unread_told IsBoardAnswer _ _ _ _ c.in-Err.fault _ c.in-Err.ensures c.refuse_source.ensures.line c.refuse_source.ensures.status
