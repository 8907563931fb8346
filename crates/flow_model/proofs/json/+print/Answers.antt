use Rattle.std.proofs.Common.{◌≡◌, [], ◌∷◌, ◌++◌, string_bytes, map, append-nil, ap, sym, ◌∙◌}
use Rattle.std.proofs.lemmas.Result.{IfOk-weaker}
use Rattle.std.specs.Vec.Iter.{into_iter_items}
use Rattle.serde_json.specs.Data.{Data, array, object}
use Rattle.serde_json.specs.View.{view as json_view, items_of}
use Rattle.serde_json.proofs.Views.{view-Array, view-Object}
use Rattle.flow_model.specs.Json.{json_of}
use Rattle.flow_model.specs.Mapping.{pairs_of, map_values}
use Rattle.flow_model.specs.Value.{view}
use Rattle.flow_model.specs.declared.value.Node.{Node}
use Rattle.flow_model.proofs.Conversions.{joined, json_items-views, json_members-viewed, members_view-joined, none_left}
use Rattle.flow_model.proofs.Nodes.{view-Map}
use Rattle.flow_model.proofs.Pairs.{with_pair-next, map_values-with_pair, Ascends-map_values, Ascends-pairs_of}
use Rattle.flow_model.proofs.json.+print.Goals as goal

pub nodes_into_json-returns : goal.nodes_into_json-returns
nodes_into_json-returns t c =
    let converted : Node → Data = λ n. json_of (view n) in
    let past : into_iter_items c.loop-node.node-iterator ≡ [] = none_left _ (sym c.loop-node.invariant.left ∙ c.in-None.ensures.steps.0) in
    let whole : map json_view c.loop-node.items.items ≡ map converted c.args.nodes.items =
    sym (append-nil (map json_view c.loop-node.items.items))
    ∙ ap (λ ns. map json_view c.loop-node.items.items ++ map converted ns) (sym past) ∙ c.loop-node.invariant.all in
    view-Array c.loop-node.items ∙ ap (λ ds. array (items_of ds)) whole ∙ sym (ap array (json_items-views c.args.nodes.items))

pub members_into_json-loop-key-preserved : goal.members_into_json-loop-key-preserved
members_into_json-loop-key-preserved t c =
    let left = c.next.new.self in
    let converted : Node → Data = λ n. json_of (view n) in
    let all : map_values json_view c.loop-key.json ++ (string_bytes c.in-Some.key, converted c.in-Some.node) ∷ map_values converted (pairs_of left) ≡ map_values converted (pairs_of c.args.members.entries) =
    ap (λ es. map_values json_view c.loop-key.json ++ map_values converted (pairs_of es)) (sym c.in-Some.ensures.steps) ∙ c.loop-key.invariant in
    rw (c.in_ok-insert.ensures.ok, map_values-with_pair json_view c.new.result c.in_ok-node_into_json.field-0 c.loop-key.json, c.new.ensures, c.in_ok-node_into_json.ensures)
    (with_pair-next (map_values json_view c.loop-key.json) (string_bytes c.in-Some.key) (converted c.in-Some.node) (map_values converted (pairs_of left)) _ all
    (Ascends-map_values converted _ (Ascends-pairs_of _ c.into_iter-key-iterator.ensures.into_iter_gives.5)))

pub members_into_json-returns : goal.members_into_json-returns
members_into_json-returns t c =
    let converted : Node → Data = λ n. json_of (view n) in
    let whole : map_values json_view c.loop-key.json ≡ map_values converted (pairs_of c.args.members.entries) =
    sym (append-nil (map_values json_view c.loop-key.json))
    ∙ ap (λ es. map_values json_view c.loop-key.json ++ map_values converted (pairs_of es)) (sym c.in-None.ensures.steps.0) ∙ c.loop-key.invariant in
    view-Object c.into_map.result
    ∙ ap object (members_view-joined c.into_map.result.entries ∙ ap (λ ps. joined (map_values json_view ps)) c.into_map.ensures ∙ ap joined whole
    ∙ sym (json_members-viewed (pairs_of c.args.members.entries)))

pub node_into_json-returns-in-Map : goal.node_into_json-returns-in-Map
node_into_json-returns-in-Map t c =
    IfOk-weaker c.members_into_json.result _ _
    (λ json e. e ∙ sym (ap (λ n. json_of (view n)) c.in-Map.is ∙ ap json_of (view-Map c.in-Map.members))) c.members_into_json.ensures
