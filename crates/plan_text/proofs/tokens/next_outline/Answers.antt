use Rattle.plan_text.proofs.SpelledLaws.{value_exact}
use Rattle.plan_text.proofs.tokens.next_outline.Goals as goal

pub returns-in-Ok-clause-tokens : goal.returns-in-Ok-clause-tokens
returns-in-Ok-clause-tokens c = value_exact 99 _ _ _ c.in-Ok.ensures.ok
