use Rattle.group_admission.proofs.Changed.{IsSound-none}
use Rattle.group_admission.proofs.groups.Groups.new.Goals as goal

pub invariant_of-result : goal.invariant_of-result
invariant_of-result c = rw c.new-cells.ensures.items IsSound-none
