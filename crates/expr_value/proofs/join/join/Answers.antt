use Rattle.std.proofs.Common.{◌∙◌, ap, sym}
use Rattle.flow_model.specs.Plain.{list, items_of}
use Rattle.flow_model.specs.Value.{view, views}
use Rattle.flow_model.proofs.Nodes.{view-List}
use Rattle.expr_value.proofs.Joins.{join_list}
use Rattle.expr_value.proofs.join.join.Goals as goal

pub returns-in-List : goal.returns-in-List
returns-in-List c =
    join_list (view c.args.node.now) (views c.as_slice.result.now) c.args.separator.now c.join_nodes.result
    (ap view c.in-List.is ∙ view-List c.in-List.nodes ∙ ap (λ nodes. list (items_of (views nodes))) (sym c.as_slice.ensures.value))
    c.join_nodes.ensures
