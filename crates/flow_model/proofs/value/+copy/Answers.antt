use Rattle.std.proofs.Common.{◌≡◌, List, ◌∷◌, ◌++◌, ℕ, string_bytes, append-nil, ap, sym, ◌∙◌}
use Rattle.std.proofs.lemmas.Result.{IfOk-weaker}
use Rattle.flow_model.specs.Mapping.{pairs_of}
use Rattle.flow_model.specs.Plain as plain
use Rattle.flow_model.specs.Value.{view, viewed}
use Rattle.flow_model.proofs.Nodes.{view-Map}
use Rattle.flow_model.proofs.Pairs.{with_pair-next, map_values-with_pair, Ascends-map_values, Ascends-pairs_of}
use Rattle.flow_model.proofs.value.+copy.Goals as goal

pub copy_members-loop-key-preserved : goal.copy_members-loop-key-preserved
copy_members-loop-key-preserved t c =
    let left = c.next.new.self in
    let all : viewed c.loop-key.twins ++ (string_bytes c.in-Some.key.now, view c.in-Some.node.now) ∷ viewed (pairs_of left) ≡ viewed (pairs_of c.args.members.now.entries) =
    ap (λ es. viewed c.loop-key.twins ++ viewed (pairs_of es)) (sym c.in-Some.ensures.steps) ∙ c.loop-key.invariant in
    rw (c.in_ok-set.ensures.ok, map_values-with_pair view c.as_str.result.now c.in_ok-copy_node.field-0 c.loop-key.twins, c.as_str.ensures.value, c.in_ok-copy_node.ensures)
    (with_pair-next (viewed c.loop-key.twins) (string_bytes c.in-Some.key.now) (view c.in-Some.node.now) (viewed (pairs_of left)) _ all
    (Ascends-map_values view _ (Ascends-pairs_of _ c.iter-key-items.ensures.ordered)))

pub copy_members-returns : goal.copy_members-returns
copy_members-returns t c =
    let whole : viewed (pairs_of c.into_map.result.entries) ≡ viewed (pairs_of c.args.members.now.entries) =
    ap viewed c.into_map.ensures ∙ sym (append-nil (viewed c.loop-key.twins))
    ∙ ap (λ es. viewed c.loop-key.twins ++ viewed (pairs_of es)) (sym c.in-None.ensures.steps.0) ∙ c.loop-key.invariant in
    view-Map c.into_map.result ∙ ap (λ (ps : List (List ℕ × plain.Plain)). plain.map (plain.members_of ps)) whole

pub copy_node-returns-in-Map : goal.copy_node-returns-in-Map
copy_node-returns-in-Map t c =
    IfOk-weaker c.copy_members.result _ _ (λ twin e. e ∙ sym (ap view c.in-Map.is ∙ view-Map c.in-Map.members)) c.copy_members.ensures
