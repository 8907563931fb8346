use Rattle.group_admission.proofs.Leaving.{withdraw_leaves_holder}
use Rattle.group_admission.proofs.laws.withdrawing_leaves_the_holder.Goals as goal

pub returns : goal.returns
returns c = withdraw_leaves_holder
