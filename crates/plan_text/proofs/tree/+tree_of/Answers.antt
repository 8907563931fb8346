use Rattle.std.proofs.Common.{◌≡◌, Some, ◌∙◌, sym, ap, option_map}
use Rattle.json.specs.Json as json
use Rattle.json.specs.Value.{value_view, items_view, members_view}
use Rattle.json.proofs.Trees.{view-Array, view-Object}
use Rattle.serde_json.specs.Data as held
use Rattle.serde_json.specs.Read.{of_json}
use Rattle.serde_json.specs.View.{view}
use Rattle.serde_json.proofs.Views.{view-Array as tree-Array, view-Object as tree-Object}
use Rattle.plan_text.proofs.OutlineLaws.{items_stand}
use Rattle.plan_text.proofs.tree.+tree_of.Goals as goal

pub tree_of-returns-in_ok-item_trees-in-Array : goal.tree_of-returns-in_ok-item_trees-in-Array
tree_of-returns-in_ok-item_trees-in-Array t c =
    let items = c.as_slice.result.now in
    let seen : value_view c.args.outline.now ≡ json.array (items_view items) =
    ap value_view c.in-Array.is ∙ view-Array c.in-Array.items ∙ ap (λ js. json.array (items_view js)) (sym c.as_slice.ensures.value) in
    ap of_json seen ∙ ap (option_map held.array) (items_stand value_view view items c.in_ok-item_trees-in-Array.field-0.items c.in_ok-item_trees-in-Array.ensures)
    ∙ ap Some (sym (tree-Array c.in_ok-item_trees-in-Array.field-0))

pub tree_of-returns-in_ok-member_trees-in-Object : goal.tree_of-returns-in_ok-member_trees-in-Object
tree_of-returns-in_ok-member_trees-in-Object t c =
    let members = c.as_slice-in-Object.result.now in
    let seen : value_view c.args.outline.now ≡ json.object (members_view members) =
    ap value_view c.in-Object.is ∙ view-Object c.in-Object.members ∙ ap (λ js. json.object (members_view js)) (sym c.as_slice-in-Object.ensures.value) in
    ap of_json seen ∙ ap (option_map held.object) c.in_ok-member_trees-in-Object.ensures
    ∙ ap Some (sym (tree-Object c.in_ok-member_trees-in-Object.field-0))
