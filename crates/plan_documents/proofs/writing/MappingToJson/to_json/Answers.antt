use Rattle.std.proofs.Common.{◌≡◌, ◌∷◌, ◌++◌, string_bytes, ap, sym, ◌∙◌}
use Rattle.std.proofs.lemmas.List.{append-nil}
use Rattle.serde_json.specs.Data.{object}
use Rattle.serde_json.specs.View.{view}
use Rattle.serde_json.proofs.Views.{view-Object}
use Rattle.flow_model.specs.Mapping.{pairs_of, map_values}
use Rattle.flow_model.proofs.Conversions.{joined, members_view-joined}
use Rattle.flow_model.proofs.Pairs.{with_pair-next, map_values-with_pair, Ascends-map_values}
use Rattle.plan_documents.proofs.Steps.{joined-map_values}
use Rattle.plan_documents.proofs.writing.MappingToJson.to_json.Goals as goal

pub loop-key-preserved : goal.loop-key-preserved
loop-key-preserved g c =
    let left = c.next.new.self in
    let write = g.T.ToJson.writing in
    let written = map_values view c.loop-key.members in
    let all : written ++ (string_bytes c.in-Some.key.now, write c.in-Some.value.now) ∷ map_values write (pairs_of left) ≡ map_values write c.args.self.now =
    ap (λ es. written ++ map_values write (pairs_of es)) (sym c.in-Some.ensures.steps) ∙ c.loop-key.invariant in
    rw (c.in_ok-set.ensures.ok, map_values-with_pair view c.as_str-name.result.now c.in_ok-json.json c.loop-key.members, c.as_str-name.ensures.value, c.in_ok-json.ensures)
    (with_pair-next written (string_bytes c.in-Some.key.now) (write c.in-Some.value.now) (map_values write (pairs_of left)) _ all
    (Ascends-map_values write c.args.self.now c.iter-from.ensures.ascends))

pub returns : goal.returns
returns g c =
    let write = g.T.ToJson.writing in
    let written = map_values view c.loop-key.members in
    let whole : written ≡ map_values write c.args.self.now =
    sym (append-nil written) ∙ ap (λ es. written ++ map_values write (pairs_of es)) (sym c.in-None.ensures.steps.0) ∙ c.loop-key.invariant in
    view-Object c.into_map.result ∙ ap object (members_view-joined c.into_map.result.entries ∙ ap (λ ps. joined (map_values view ps)) c.into_map.ensures ∙ ap joined whole
    ∙ joined-map_values write c.args.self.now)
