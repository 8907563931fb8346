use Rattle.board_settled.proofs.Grouped.{legal_kept, legal_outside}
use Rattle.board_settled.proofs.admission_laws.legal_lists_are_shown.Goals as goal

pub returns-clause-kept : goal.returns-clause-kept
returns-clause-kept c = legal_kept c.rules_hold.ensures

pub returns-clause-enters : goal.returns-clause-enters
returns-clause-enters c = legal_outside c.rules_hold.ensures
