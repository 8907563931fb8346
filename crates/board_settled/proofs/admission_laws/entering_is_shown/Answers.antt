use Rattle.group_admission.proofs.Entering.{first_holds, next_displaces, own_run_changes_nothing}
use Rattle.status_table.proofs.Shown.{opens_as_entered, asks_as_entered}
use Rattle.board_settled.proofs.admission_laws.entering_is_shown.Goals as goal

pub returns-clause-open : goal.returns-clause-open
returns-clause-open c = opens_as_entered first_holds next_displaces own_run_changes_nothing

pub returns-clause-ask : goal.returns-clause-ask
returns-clause-ask c = asks_as_entered first_holds next_displaces own_run_changes_nothing
