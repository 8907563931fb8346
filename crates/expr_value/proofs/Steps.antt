-- A step from each item of a list, item by item.
use Rattle.std.proofs.Common.{◌≡◌, Option, Some, None, Result, Ok, Err, List, [], ◌∷◌, ◌++◌, refl, sym, ap, ◌∙◌, append_assoc}
use Rattle.std.specs.List.{filter_map, cons_option}
use Rattle.expr_value.proofs.Fronts.{with_front, with_front-twice}
use Rattle.expr_value.specs.Dereference.{index_each, property_of, with_found}
use Rattle.expr_value.specs.Stepping.{Step, at_name, at_index, place_in, places_in}
use Rattle.flow_model.specs.Plain.{Plain}
use Rattle.flow_model.specs.declared.reply.ValueFault.{ValueFault}

one_found : (v : Plain) (r : Result (List Plain) ValueFault) → with_front (v ∷ []) r ≡ with_found (Ok (Some v)) r
one_found v (Ok vs) = refl
one_found v (Err fault) = refl

none_found : (r : Result (List Plain) ValueFault) → r ≡ with_found (Ok None) r
none_found (Ok vs) = refl
none_found (Err fault) = refl

-- An item in which something stands at the step.
pub place_more : (step : Step) (found : List Plain) (v w : Plain) (left : List Plain) → place_in step v ≡ Ok (Some w) → with_front (found ++ w ∷ []) (places_in step left) ≡ with_front found (places_in step (v ∷ left))
place_more (at_name name) found v w left is =
    let there : property_of name v ≡ Some w = cc in
    ap Ok (append_assoc found (w ∷ []) (filter_map (property_of name) left)
    ∙ ap (λ (place : Option Plain). found ++ cons_option place (filter_map (property_of name) left)) (sym there))
place_more (at_index index) found v w left is =
    with_front-twice found (w ∷ []) (index_each index left) ∙ ap (with_front found) (one_found w (index_each index left))
    ∙ ap (λ (place : Result (Option Plain) ValueFault). with_front found (with_found place (index_each index left))) (sym is)

-- An item in which nothing does.
pub place_none : (step : Step) (found : List Plain) (v : Plain) (left : List Plain) → place_in step v ≡ Ok None → with_front found (places_in step left) ≡ with_front found (places_in step (v ∷ left))
place_none (at_name name) found v left is =
    let there : property_of name v ≡ None = cc in
    ap (λ (place : Option Plain). Ok (found ++ cons_option place (filter_map (property_of name) left))) (sym there)
place_none (at_index index) found v left is =
    ap (with_front found) (none_found (index_each index left))
    ∙ ap (λ (place : Result (Option Plain) ValueFault). with_front found (with_found place (index_each index left))) (sym is)
