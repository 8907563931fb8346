use Rattle.std.proofs.Common.{List, subst}
use Rattle.command_io.specs.Files.{Content}
use Rattle.command_io.specs.Tell.{OrMemory, printed_status, printed_text}
use Rattle.command_print.proofs.Linted.{answered, lint_told, unread_lint}
use Rattle.command_print.specs.Lint.{IsLintAnswer}
use Rattle.command_print.proofs.lint.lint.Goals as goal

pub returns-in-Ok : goal.returns-in-Ok
returns-in-Ok g c =
    let found = printed_text c.answer.result in
    let done = printed_status c.answer.result in
    lint_told _ _ _ _ _ _ c.in-Ok.contents done found _ c.in-Ok.ensures
    (subst (λ (files : List Content). OrMemory found (IsLintAnswer done files found)) c.as_slice.ensures
    (answered c.as_slice.result.now c.answer.result c.answer.ensures))
    c.tell_printed.ensures

pub returns-in-Err : goal.returns-in-Err
returns-in-Err g c = unread_lint _ _ _ _ _ c.in-Err.fault _ c.in-Err.ensures c.refuse_source.ensures.line c.refuse_source.ensures.status
