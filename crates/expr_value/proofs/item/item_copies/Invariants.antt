use Rattle.std.proofs.Common.{◌≡◌, take}
use Rattle.expr_value.specs.Seen.{items_seen}
use Rattle.flow_model.specs.Value.{views}
use Rattle.expr_value.proofs.item.item_copies.Given as goal

abbrev pub invariant-loop-item : goal.invariant-loop-item
invariant-loop-item l = views l.nodes.items ≡ items_seen (take l.item-index l.items)
