use Rattle.std.proofs.Common.{◌≡◌, ◌++◌, map, length}
use Rattle.std.specs.Vec.Iter.{into_iter_items, into_iter_len}
use Rattle.serde_json.specs.View.{view as json_view}
use Rattle.flow_model.specs.Json.{json_of}
use Rattle.flow_model.specs.Mapping.{pairs_of, map_values}
use Rattle.flow_model.specs.Value.{view}
use Rattle.flow_model.proofs.json.+print.Given as goal

-- the items that were converted and those that are left are all
abbrev pub invariant-nodes_into_json-loop-node : goal.invariant-nodes_into_json-loop-node
invariant-nodes_into_json-loop-node l = record {
  all : map json_view l.items.items ++ map (λ n. json_of (view n)) (into_iter_items l.node-iterator) ≡ map (λ n. json_of (view n)) l.fn.nodes.items;
  left : into_iter_len l.node-iterator ≡ length (into_iter_items l.node-iterator);
}

-- the pairs that were converted and those that are left are all
abbrev pub invariant-members_into_json-loop-key : goal.invariant-members_into_json-loop-key
invariant-members_into_json-loop-key l =
    map_values json_view l.json ++ map_values (λ n. json_of (view n)) (pairs_of l.key-iterator) ≡ map_values (λ n. json_of (view n)) (pairs_of l.fn.members.entries)
