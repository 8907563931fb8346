use Rattle.std.proofs.Common.{◌∙◌, ap, sym}
use Rattle.flow_model.specs.Plain.{list, items_of}
use Rattle.flow_model.specs.Value.{view, views}
use Rattle.flow_model.proofs.Nodes.{view-List}
use Rattle.expr_value.proofs.Searches.{contains_in_list}
use Rattle.expr_value.proofs.search.contains.Goals as goal

pub returns-in-List : goal.returns-in-List
returns-in-List c =
    contains_in_list (view c.args.node.now) (views c.as_slice.result.now) _ c.any_match.result
    (ap view c.in-List.is ∙ view-List c.in-List.nodes ∙ ap (λ nodes. list (items_of (views nodes))) (sym c.as_slice.ensures.value))
    c.any_match.ensures
