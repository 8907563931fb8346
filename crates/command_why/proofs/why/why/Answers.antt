use Rattle.command_why.specs.Why.{answer_of}
use Rattle.command_why.proofs.Answered.{why_told, unread_why}
use Rattle.command_why.proofs.why.why.Goals as goal

pub returns-in-Ok : goal.returns-in-Ok
returns-in-Ok g c =
    why_told c.args.wanted _ _ _ _ _ _ c.in-Ok.text.items (answer_of c.text_explained.result) _ c.in-Ok.ensures c.text_explained.ensures
    c.tell.ensures

pub returns-in-Err : goal.returns-in-Err
returns-in-Err g c =
    unread_why c.args.wanted _ _ _ _ _ c.in-Err.fault _ c.in-Err.ensures c.refuse_source.ensures.line c.refuse_source.ensures.status
