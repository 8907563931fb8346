use Rattle.command_io.proofs.Shown.{printed_answers, shown_told, unread_shown}
use Rattle.command_io.specs.Tell.{printed_status, printed_text}
use Rattle.command_print.specs.Replay.{ShowsReplay}
use Rattle.command_print.proofs.replay.replay.Goals as goal

pub returns-in-Ok : goal.returns-in-Ok
returns-in-Ok g c =
    let found = printed_text c.shown_replay.result in
    let done = printed_status c.shown_replay.result in
    shown_told ShowsReplay _ _ _ _ _ _ c.in-Ok.text.items done found _ c.in-Ok.ensures
    (printed_answers ShowsReplay c.in-Ok.text.items c.shown_replay.result c.shown_replay.ensures)
    c.tell_printed.ensures

pub returns-in-Err : goal.returns-in-Err
returns-in-Err g c = unread_shown ShowsReplay _ _ _ _ _ c.in-Err.fault _ c.in-Err.ensures c.refuse_source.ensures.line c.refuse_source.ensures.status
