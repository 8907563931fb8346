use Rattle.group_admission.proofs.Entering.{first_holds, next_displaces, own_run_changes_nothing}
use Rattle.group_admission.proofs.laws.entering_displaces_the_waiter.Goals as goal

pub returns : goal.returns
returns c = record { first = first_holds; further = next_displaces; own = own_run_changes_nothing }
