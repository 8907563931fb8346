use Rattle.std.proofs.Common.{rules}
use Rattle.plan_text.proofs.OutlineLaws.{document_loads}
use Rattle.plan_text.proofs.plan_tokens.read_printed.Goals as goal

pub returns-in-Ok-check : goal.returns-in-Ok-check
returns-in-Ok-check c =
    document_loads c.args.bytes.now c.in-Ok.text.now c.in_ok-plan.field-0-1 c.in_ok-plan.plan c.in-Ok-check.checked c.in-Ok.ensures.cases.0 c.in-Ok.ensures.cases.1 c.in_ok-plan.ensures
    c.in-Ok-check.ensures.accepted (search rules)
