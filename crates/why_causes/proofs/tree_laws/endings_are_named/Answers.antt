use Rattle.why_causes.proofs.Endings.{endings_are_named}
use Rattle.why_causes.proofs.tree_laws.endings_are_named.Goals as goal

pub returns : goal.returns
returns c = endings_are_named (λ p rules. (c.rules_hold.ensures p).0 rules) c.needs_point_back.ensures
