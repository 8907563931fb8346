use Rattle.std.proofs.Common.{ap, sym, ◌∙◌}
use Rattle.expr_value.specs.Dereference.{property_of}
use Rattle.flow_model.proofs.Nodes.{view-Map}
use Rattle.flow_model.specs.Value.{view}
use Rattle.expr_value.proofs.dereference.property_of.Goals as goal

pub returns-in-Map : goal.returns-in-Map
returns-in-Map c = c.member.ensures ∙ sym (ap (property_of c.args.name.now) (ap view c.in-Map.is ∙ view-Map c.in-Map.members))
