use Rattle.std.proofs.Common.{◌≡◌, ◌+◌, Vec, Global, Option, Some, None, Ok, List, [], ◌∷◌, ◌++◌, drop, ap, sym, ◌∙◌}
use Rattle.std.proofs.lemmas.List.{map-append}
use Rattle.expr_value.proofs.Fronts.{with_front}
use Rattle.expr_value.proofs.Steps.{place_more, place_none}
use Rattle.expr_value.specs.Seen.{item_seen, items_seen, maybe_seen}
use Rattle.expr_value.specs.Stepping.{place_in, places_in, step_seen}
use Rattle.expr_value.specs.declared.item.Item.{Item}
use Rattle.flow_model.proofs.Conversions.{drop-next}
use Rattle.flow_model.specs.Plain.{Plain}
use Rattle.expr_value.proofs.dereference.places.Goals as goal
use Rattle.expr_value.proofs.dereference.places.Goals.{in-Some+in_ok-push, in_default}

pub loop-item-preserved : goal.loop-item-preserved
loop-item-preserved c =
    let items = c.args.items.now in
    let i = c.loop-item.item-index in
    let step = step_seen c.args.step in
    let found = items_seen c.loop-item.found.items in
    let v = item_seen c.item-item.result in
    let left = items_seen (drop (i + 1) items) in
    let here : drop i items ≡ c.item-item.result ∷ drop (i + 1) items = drop-next items i c.item-item.result c.loop-item-test.true c.item-item.is in
    let whole = ap (λ (is : List Item). with_front found (places_in step (items_seen is))) (sym here) ∙ c.loop-item.invariant in
    elim c.match-branch-2.branch [
      | in-Some+in_ok-push w ↦
          let grew : items_seen c.match-branch-2.found.items ≡ found ++ item_seen w.in-Some.place ∷ [] =
          ap (λ (is : Vec Item Global). items_seen is.items) w.found-is ∙ ap items_seen w.in_ok-push.ensures.items ∙ map-append item_seen c.loop-item.found.items (w.in-Some.place ∷ []) in
          let there : place_in step v ≡ Ok (Some (item_seen w.in-Some.place)) = c.in_ok-place.ensures ∙ ap (λ (o : Option Item). Ok (maybe_seen o)) w.in-Some.is in
          ap (λ (vs : List Plain). with_front vs (places_in step left)) grew ∙ place_more step found v (item_seen w.in-Some.place) left there ∙ whole
      | in_default w ↦
          let same : items_seen c.match-branch-2.found.items ≡ found = ap (λ (is : Vec Item Global). items_seen is.items) w.found-is in
          let there : place_in step v ≡ Ok None = c.in_ok-place.ensures ∙ ap (λ (o : Option Item). Ok (maybe_seen o)) w.in_default.is in
          ap (λ (vs : List Plain). with_front vs (places_in step left)) same ∙ place_none step found v left there ∙ whole
    ]
