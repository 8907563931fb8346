use Rattle.std.proofs.Common.{◌∙◌, ap}
use Rattle.flow_model.specs.Mapping.{pairs_of}
use Rattle.flow_model.proofs.Pairs.{pairs-insert_entry}
use Rattle.flow_model.proofs.mapping.Mapping.insert.Goals as goal

pub returns-in_ok-insert-in-Some-clause-ok : goal.returns-in_ok-insert-in-Some-clause-ok
returns-in_ok-insert-in-Some-clause-ok g c =
    rw (← c.self.view_is, ← c.into_string.ensures, c.in-Some.is, ← c.deref_mut.ensures.value)
    (ap pairs_of c.in_ok-insert-in-Some.ensures.entries ∙ pairs-insert_entry c.deref_mut.result.now.entries c.into_string.result c.args.value)
