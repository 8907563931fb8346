use Rattle.group_admission.proofs.Back.{Ascends-known_in}
use Rattle.group_admission.proofs.groups.Groups.names_ascend.Goals as goal

pub returns : goal.returns
returns c = rw (← c.self.view_is) (Ascends-known_in c.self.inside.cells.items c.self.invariant.ordered)
