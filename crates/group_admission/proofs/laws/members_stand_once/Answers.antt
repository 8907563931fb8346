use Rattle.group_admission.proofs.Once.{once_stays, waiter_is_told}
use Rattle.group_admission.proofs.Nowhere.{nowhere_is_no_group}
use Rattle.group_admission.proofs.laws.members_stand_once.Goals as goal

pub returns : goal.returns
returns c = record { stays = once_stays; told = waiter_is_told; nowhere = nowhere_is_no_group }
