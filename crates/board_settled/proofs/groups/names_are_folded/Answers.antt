use Rattle.board_settled.proofs.Grouped.{names_are_folded, one_holder}
use Rattle.board_settled.proofs.groups.names_are_folded.Goals as goal

pub returns-clause-folded : goal.returns-clause-folded
returns-clause-folded c = names_are_folded c.legal_lists_are_shown.ensures.kept

pub returns-clause-one : goal.returns-clause-one
returns-clause-one c = one_holder c.legal_lists_are_shown.ensures.kept
