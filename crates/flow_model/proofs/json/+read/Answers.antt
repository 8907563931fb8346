use Rattle.std.proofs.Common.{◌≡◌, List, [], ◌∷◌, ◌++◌, ℕ, Some, length, option_map, string_bytes, ap, sym, ◌∙◌, arith}
use Rattle.std.proofs.lemmas.List.{map-append}
use Rattle.std.specs.Vec.Iter.{into_iter_items}
use Rattle.serde_json.specs.View.{members_view, items_view}
use Rattle.flow_model.specs.Json.{value_members, value_items}
use Rattle.flow_model.specs.Mapping.{pairs_of, keys_of}
use Rattle.flow_model.specs.Plain as plain
use Rattle.flow_model.specs.Value.{view, views, viewed}
use Rattle.flow_model.proofs.Conversions.{items_step, items_then, items_then-end, members_step, members_then, members_then-end, none_left}
use Rattle.flow_model.proofs.LastPair.{with_pair-above, keys_of-next}
use Rattle.flow_model.proofs.Nodes.{view-List, view-Map}
use Rattle.flow_model.proofs.Pairs.{Ascends-pairs_of}
use Rattle.flow_model.proofs.json.+read.Goals as goal

pub items_into_node-loop-item-preserved : goal.items_into_node-loop-item-preserved
items_into_node-loop-item-preserved t c =
    let vs = views c.loop-item.nodes.items in
    let steps = c.in-Some.ensures.steps in
    rw (c.in_ok-push.ensures.items, map-append view c.loop-item.nodes.items (c.in_ok-json_into_node.field-0 ∷ [])) (record {
      reads = items_step vs (view c.in_ok-json_into_node.field-0) c.in-Some.item (into_iter_items c.next.new.self) (value_items (items_view c.args.items.items))
          (ap (λ ds. option_map (items_then vs) (value_items (items_view ds))) (sym steps.0) ∙ c.loop-item.invariant.reads) c.in_ok-json_into_node.ensures;
      left = omega (arith, steps.1, c.loop-item.invariant.left, ap length steps.0);
    })

pub items_into_node-returns : goal.items_into_node-returns
items_into_node-returns t c =
    let vs = views c.loop-item.nodes.items in
    let past : into_iter_items c.loop-item.item-iterator ≡ [] = none_left _ (sym c.loop-item.invariant.left ∙ c.in-None.ensures.steps.0) in
    ap (option_map plain.list) (sym c.loop-item.invariant.reads ∙ ap (λ ds. option_map (items_then vs) (value_items (items_view ds))) past ∙ ap Some (items_then-end vs))
    ∙ ap Some (sym (view-List c.loop-item.nodes))

pub members_into_node-loop-key-preserved : goal.members_into_node-loop-key-preserved
members_into_node-loop-key-preserved t c =
    let left = c.next.new.self in
    let k = string_bytes c.in-Some.key in
    let v = c.in_ok-json_into_node.field-0 in
    let ascends = Ascends-pairs_of _ c.into_iter-key-iterator.ensures.into_iter_gives.5 in
    let keys : keys_of c.loop-key.nodes ++ k ∷ keys_of (pairs_of left) ≡ keys_of (pairs_of c.args.members.entries) =
    ap (λ es. keys_of c.loop-key.nodes ++ keys_of (pairs_of es)) (sym c.in-Some.ensures.steps) ∙ c.loop-key.invariant.keys in
    rw (c.in_ok-insert.ensures.ok, c.new.ensures) (record {
      keys = keys_of-next c.loop-key.nodes k v (keys_of (pairs_of left)) _ keys ascends;
      reads = rw (with_pair-above c.loop-key.nodes k v (keys_of (pairs_of left)) _ keys ascends, map-append {B = List ℕ × plain.Plain} (λ p. (p.0, view p.1)) c.loop-key.nodes ((k, v) ∷ []))
          (members_step (viewed c.loop-key.nodes) (view v) (c.in-Some.key, c.in-Some.member) left _
          (ap (λ es. option_map (members_then (viewed c.loop-key.nodes)) (value_members (members_view es))) (sym c.in-Some.ensures.steps) ∙ c.loop-key.invariant.reads)
          c.in_ok-json_into_node.ensures);
    })

pub members_into_node-returns : goal.members_into_node-returns
members_into_node-returns t c =
    let read : value_members (members_view c.args.members.entries) ≡ Some (plain.members_of (viewed (pairs_of c.into_map.result.entries))) =
    rw c.into_map.ensures (sym c.loop-key.invariant.reads
    ∙ ap (λ es. option_map (members_then (viewed c.loop-key.nodes)) (value_members (members_view es))) c.in-None.ensures.steps.0
    ∙ ap Some (members_then-end (viewed c.loop-key.nodes))) in
    ap (option_map plain.map) read ∙ ap Some (sym (view-Map c.into_map.result))
