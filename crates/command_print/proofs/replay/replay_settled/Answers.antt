use Rattle.std.proofs.Common.{ℕ, List, subst}
use Rattle.command_io.proofs.Shown.{printed_answers, shown_told, unread_shown}
use Rattle.command_io.specs.Records.{IsShownAnswer}
use Rattle.command_io.specs.Tell.{OrMemory, printed_status, printed_text}
use Rattle.command_print.specs.Replay.{ShowsSettled}
use Rattle.command_print.proofs.replay.replay_settled.Goals as goal

pub returns-in-Ok : goal.returns-in-Ok
returns-in-Ok g c =
    let found = printed_text c.shown_settled.result in
    let done = printed_status c.shown_settled.result in
    shown_told ShowsSettled _ _ _ _ _ _ c.in-Ok.text.items done found _ c.in-Ok.ensures
    (subst (λ (text : List ℕ). OrMemory found (IsShownAnswer ShowsSettled done text found)) c.as_slice.ensures.value
    (printed_answers ShowsSettled c.as_slice.result.now c.shown_settled.result c.shown_settled.ensures))
    c.tell_printed.ensures

pub returns-in-Err : goal.returns-in-Err
returns-in-Err g c = unread_shown ShowsSettled _ _ _ _ _ c.in-Err.fault _ c.in-Err.ensures c.refuse_source.ensures.line c.refuse_source.ensures.status
