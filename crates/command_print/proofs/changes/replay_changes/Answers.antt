use Rattle.std.proofs.Common.{ℕ, List, subst}
use Rattle.command_io.proofs.Shown.{printed_answers, shown_told, unread_shown}
use Rattle.command_io.specs.Records.{IsShownAnswer}
use Rattle.command_io.specs.Tell.{OrMemory, printed_status, printed_text}
use Rattle.command_print.specs.Changes.{ShowsChanges}
use Rattle.command_print.proofs.changes.replay_changes.Goals as goal

pub returns-in-Ok : goal.returns-in-Ok
returns-in-Ok g c =
    let found = printed_text c.shown_changes.result in
    let done = printed_status c.shown_changes.result in
    shown_told ShowsChanges _ _ _ _ _ _ c.in-Ok.text.items done found _ c.in-Ok.ensures
    (subst (λ (text : List ℕ). OrMemory found (IsShownAnswer ShowsChanges done text found)) c.as_slice.ensures.value
    (printed_answers ShowsChanges c.as_slice.result.now c.shown_changes.result c.shown_changes.ensures))
    c.tell_printed.ensures

pub returns-in-Err : goal.returns-in-Err
returns-in-Err g c = unread_shown ShowsChanges _ _ _ _ _ c.in-Err.fault _ c.in-Err.ensures c.refuse_source.ensures.line c.refuse_source.ensures.status
