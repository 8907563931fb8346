use Rattle.group_admission.proofs.Lookups.{Ascends-held_in}
use Rattle.group_admission.proofs.groups.Groups.holder.Goals as goal

pub returns-in-Some-clause-ordered : goal.returns-in-Some-clause-ordered
returns-in-Some-clause-ordered c = rw (← c.self.view_is) (Ascends-held_in c.self.inside.cells.items c.self.invariant.ordered)

pub returns-in-None-clause-ordered : goal.returns-in-None-clause-ordered
returns-in-None-clause-ordered c = rw (← c.self.view_is) (Ascends-held_in c.self.inside.cells.items c.self.invariant.ordered)

pub returns-in-Some-clause-once : goal.returns-in-Some-clause-once
returns-in-Some-clause-once c = rw (← c.self.view_is) c.self.invariant.once

pub returns-in-None-clause-once : goal.returns-in-None-clause-once
returns-in-None-clause-once c = rw (← c.self.view_is) c.self.invariant.once
