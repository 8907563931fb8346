use Rattle.std.proofs.Common.{◌∙◌}
use Rattle.flow_model.proofs.Pairs.{pairs-lookup}
use Rattle.flow_model.proofs.mapping.Mapping.get.Goals as goal

pub returns-in-Some : goal.returns-in-Some
returns-in-Some g c =
    rw (← c.self.view_is, c.in-Some.is, ← c.deref.ensures) (c.get.ensures.value ∙ pairs-lookup c.args.key.now c.deref.result.now.entries)
