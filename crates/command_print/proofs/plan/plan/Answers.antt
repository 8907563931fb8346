use Rattle.std.proofs.Common.{List, ◌∷◌, subst}
use Rattle.command_io.proofs.Told.{read_told, unread_told}
use Rattle.command_io.specs.Files.{Content}
use Rattle.command_print.specs.Plan.{AnswersPlan, IsPlanAnswer}
use Rattle.command_io.specs.Tell.{OrMemory, answer_seen}
use Rattle.command_print.proofs.plan.plan.Goals as goal

pub returns-in-Ok : goal.returns-in-Ok
returns-in-Ok g c =
    let found = answer_seen c.answer.result in
    let choice = c.args.asked.now.choice in
    read_told (IsPlanAnswer choice) _ _ _ _ _ (c.in-Ok.contexts ∷ c.in-Ok.flows) found _ c.in-Ok.ensures
    (subst (λ (flows : List Content). OrMemory found (AnswersPlan choice c.in-Ok.contexts flows found)) c.as_slice.ensures c.answer.ensures)
    c.tell.ensures

pub returns-in-Err : goal.returns-in-Err
returns-in-Err g c = unread_told (IsPlanAnswer c.args.asked.now.choice) _ _ _ _ c.in-Err.fault _ c.in-Err.ensures c.refuse_source.ensures.line c.refuse_source.ensures.status
