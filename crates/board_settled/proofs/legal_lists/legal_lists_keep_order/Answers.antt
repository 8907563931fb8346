use Rattle.status_table.proofs.Legal.{after_fits}
use Rattle.board_settled.proofs.legal_lists.legal_lists_keep_order.Goals as goal

pub returns-clause-shape : goal.returns-clause-shape
returns-clause-shape c = λ p es b h. (after_fits p es b h).shape

pub returns-clause-ends : goal.returns-clause-ends
returns-clause-ends c = λ p es b h. (after_fits p es b h).ends
