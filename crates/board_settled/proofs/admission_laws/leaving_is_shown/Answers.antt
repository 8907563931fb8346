use Rattle.group_admission.proofs.Leaving.{release_passes_on, withdraw_leaves_holder}
use Rattle.status_table.proofs.Shown.{closes_as_left, drops_as_left, finishes_as_left}
use Rattle.board_settled.proofs.admission_laws.leaving_is_shown.Goals as goal

pub returns-clause-close : goal.returns-clause-close
returns-clause-close c = closes_as_left release_passes_on withdraw_leaves_holder

pub returns-clause-drop : goal.returns-clause-drop
returns-clause-drop c = drops_as_left release_passes_on withdraw_leaves_holder

pub returns-clause-finish : goal.returns-clause-finish
returns-clause-finish c = finishes_as_left release_passes_on withdraw_leaves_holder
