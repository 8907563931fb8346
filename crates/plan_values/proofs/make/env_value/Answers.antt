use Rattle.std.proofs.Common.{◌≡◌, List, [], ◌∷◌, ◌++◌, ℕ, string_bytes, append-nil, ap, sym, ◌∙◌, rules}
use Rattle.flow_model.specs.Mapping.{pairs_of, map_values}
use Rattle.flow_model.specs.Plain as plain
use Rattle.flow_model.specs.Value.{view, viewed}
use Rattle.flow_model.proofs.Nodes.{view-Map}
use Rattle.flow_model.proofs.Pairs.{with_pair-next, map_values-with_pair, Ascends-map_values}
use Rattle.plan_values.proofs.make.env_value.Goals as goal

pub loop-name-preserved : goal.loop-name-preserved
loop-name-preserved c =
    let left = c.next.new.self in
    let all : viewed c.loop-name.members ++ (string_bytes c.in-Some.name.now, plain.text c.in-Some.text.now) ∷ map_values plain.text (pairs_of left) ≡ map_values plain.text c.args.env.now =
    ap (λ es. viewed c.loop-name.members ++ map_values plain.text (pairs_of es)) (sym c.in-Some.ensures.steps) ∙ c.loop-name.invariant in
    rw (c.in_ok-set.ensures.ok, map_values-with_pair view c.as_str.result.now c.in_ok-text_node.field-0 c.loop-name.members, c.as_str.ensures.value, c.in_ok-text_node.ensures)
    (with_pair-next (viewed c.loop-name.members) (string_bytes c.in-Some.name.now) (plain.text c.in-Some.text.now) (map_values plain.text (pairs_of left)) _ all
    (Ascends-map_values plain.text _ c.iter-name-items.ensures.ascends))

pub returns : goal.returns
returns c =
    let done : c.loop-name.name-iterator ≡ [] = search rules in
    let all : viewed c.loop-name.members ≡ map_values plain.text c.args.env.now =
    sym (append-nil (viewed c.loop-name.members)) ∙ ap (λ es. viewed c.loop-name.members ++ map_values plain.text (pairs_of es)) (sym done) ∙ c.loop-name.invariant in
    c.new.ensures ∙ view-Map c.into_map.result ∙ ap (λ (ps : List (List ℕ × plain.Plain)). plain.map (plain.members_of ps)) (ap viewed c.into_map.ensures ∙ all)
