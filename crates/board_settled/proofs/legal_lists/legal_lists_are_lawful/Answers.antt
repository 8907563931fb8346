use Rattle.status_table.proofs.Lawfulness.{legal_lawful}
use Rattle.board_settled.proofs.legal_lists.legal_lists_are_lawful.Goals as goal

pub returns : goal.returns
returns c = λ p rules es b h. legal_lawful p ((c.rules_hold.ensures p).0 rules) es b h
