use Rattle.flow_model.proofs.Pairs.{Ascends-none, Ascends-pairs_of}
use Rattle.flow_model.proofs.mapping.Mapping.iter.Goals as goal

pub returns-in_default-clause-ascends : goal.returns-in_default-clause-ascends
returns-in_default-clause-ascends g c = rw (← c.self.view_is, c.in_default.is) (Ascends-none g.row.V.Denot)

pub returns-clause-ascends : goal.returns-clause-ascends
returns-clause-ascends g c = rw (← c.self.view_is, c.in-Some.is, ← c.deref.ensures) (Ascends-pairs_of _ c.iter.ensures.ordered)
