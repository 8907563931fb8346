use Rattle.std.proofs.Common.{◌≡◌, ◌++◌, length, option_map}
use Rattle.std.specs.Vec.Iter.{into_iter_items, into_iter_len}
use Rattle.serde_json.specs.View.{items_view, members_view}
use Rattle.flow_model.specs.Json.{value_items, value_members}
use Rattle.flow_model.specs.Mapping.{pairs_of, keys_of}
use Rattle.flow_model.specs.Value.{views, viewed}
use Rattle.flow_model.proofs.Conversions.{items_then, members_then}
use Rattle.flow_model.proofs.json.+read.Given as goal

-- what was read, before what is left
abbrev pub invariant-items_into_node-loop-item : goal.invariant-items_into_node-loop-item
invariant-items_into_node-loop-item l = record {
  reads : option_map (items_then (views l.nodes.items)) (value_items (items_view (into_iter_items l.item-iterator))) ≡ value_items (items_view l.fn.items.items);
  left : into_iter_len l.item-iterator ≡ length (into_iter_items l.item-iterator);
}

abbrev pub invariant-members_into_node-loop-key : goal.invariant-members_into_node-loop-key
invariant-members_into_node-loop-key l = record {
  keys : keys_of l.nodes ++ keys_of (pairs_of l.key-iterator) ≡ keys_of (pairs_of l.fn.members.entries);
  reads : option_map (members_then (viewed l.nodes)) (value_members (members_view l.key-iterator)) ≡ value_members (members_view l.fn.members.entries);
}
