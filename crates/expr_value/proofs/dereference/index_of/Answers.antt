use Rattle.std.proofs.Common.{Option, Result, ap, sym, subst, ◌∙◌}
use Rattle.expr_value.proofs.Lists.{items-again}
use Rattle.expr_value.specs.Answer.{Gives}
use Rattle.expr_value.specs.Convert.{number_of}
use Rattle.expr_value.specs.Dereference.{index_of, item_found}
use Rattle.expr_value.specs.Seen.{kind_seen, node_seen}
use Rattle.flow_model.proofs.Nodes.{view-List, view-Map}
use Rattle.flow_model.specs.Plain as plain
use Rattle.flow_model.specs.Value.{view, views}
use Rattle.flow_model.specs.declared.reply.ValueFault.{ValueFault}
use Rattle.expr_value.proofs.dereference.index_of.Goals as goal

pub returns-in-List : goal.returns-in-List
returns-in-List c =
    let kind = kind_seen c.args.index in
    let meaning = ap (index_of kind) (ap view c.in-List.is ∙ view-List c.in-List.nodes) ∙ ap (item_found (number_of kind)) (items-again (views c.in-List.nodes.items) ∙ ap views (sym c.as_slice.ensures.value)) in
    subst (λ (m : Result (Option plain.Plain) ValueFault). Gives node_seen c.index_nodes.result m) (sym meaning) c.index_nodes.ensures

pub returns-in-Map : goal.returns-in-Map
returns-in-Map c =
    let meaning = ap (index_of (kind_seen c.args.index)) (ap view c.in-Map.is ∙ view-Map c.in-Map.members) in
    subst (λ (m : Result (Option plain.Plain) ValueFault). Gives node_seen c.index_members.result m) (sym meaning) c.index_members.ensures
