use Rattle.std.proofs.Common.{ℕ, List, subst}
use Rattle.command_io.proofs.Told.{read_told, unread_told}
use Rattle.command_print.specs.Eval.{IsEvalAnswer}
use Rattle.command_io.specs.Tell.{OrMemory, answer_seen}
use Rattle.command_print.proofs.eval.eval.Goals as goal

pub returns-in-Ok : goal.returns-in-Ok
returns-in-Ok g c =
    let found = answer_seen c.answer.result in
    let Is = IsEvalAnswer c.args.asked.now.contexts.name c.args.asked.now.expression.now in
    read_told Is _ _ _ _ _ c.in-Ok.bytes.items found _ c.in-Ok.ensures
    (subst (λ (bytes : List ℕ). OrMemory found (Is bytes found)) c.as_slice.ensures.value
    (subst (λ (file : List ℕ). OrMemory found (IsEvalAnswer file c.args.asked.now.expression.now c.as_slice.result.now found)) c.as_str-file.ensures
    c.answer.ensures))
    c.tell.ensures

pub returns-in-Err : goal.returns-in-Err
returns-in-Err g c =
    unread_told (IsEvalAnswer c.args.asked.now.contexts.name c.args.asked.now.expression.now) _ _ _ _ c.in-Err.fault _ c.in-Err.ensures c.refuse_source.ensures.line
    c.refuse_source.ensures.status
