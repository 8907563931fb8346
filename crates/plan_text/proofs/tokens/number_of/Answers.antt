use Rattle.std.proofs.Common.{sym, ◌∙◌, arith}
use Rattle.plan_text.proofs.OutlineLaws.{digits_stand}
use Rattle.plan_text.proofs.PrintedLaws.{some_both}
use Rattle.plan_text.proofs.tokens.number_of.Goals as goal

pub returns-clause-stands : goal.returns-clause-stands
returns-clause-stands c =
    some_both c.whole_number.result c.whole_number.ensures.text c.whole_number.ensures.bounded
    (λ number is few. digits_stand c.args.text.now number (sym c.as_bytes.ensures.value ∙ is) (omega (arith, few)))
