use Rattle.why_causes.proofs.Reasons.{reasons_are_named}
use Rattle.why_causes.proofs.tree_laws.reasons_are_named.Goals as goal

pub returns : goal.returns
returns c = reasons_are_named (λ p rules. (c.rules_hold.ensures p).0 rules)
