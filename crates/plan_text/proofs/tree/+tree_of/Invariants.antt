use Rattle.std.proofs.Common.{◌≡◌, take, drop}
use Rattle.json.specs.Value.{value_view, members_view as members_outline}
use Rattle.serde_json.specs.Data.{no_members}
use Rattle.serde_json.specs.Read.{of_members}
use Rattle.serde_json.specs.View.{view, members_view}
use Rattle.plan_text.specs.Outline.{EachStandsFor}
use Rattle.plan_text.proofs.tree.+tree_of.Given as goal

abbrev pub invariant-item_trees-loop-item : goal.invariant-item_trees-loop-item
invariant-item_trees-loop-item l = EachStandsFor value_view view (take l.item-index l.items) l.trees.items

abbrev pub invariant-member_trees-loop-member : goal.invariant-member_trees-loop-member
invariant-member_trees-loop-member l =
    of_members (members_outline l.members) no_members ≡ of_members (members_outline (drop l.member-index l.members)) (members_view l.trees.entries)
