use Rattle.std.proofs.Common.{◌≡◌, ◌+◌, List, [], ◌∷◌, drop, sym, ap, ◌∙◌}
use Rattle.std.specs.List.{zip, filter_map}
use Rattle.plan_values.specs.Words.{DoneStep, laid_over, viewed}
use Rattle.board_decisions.specs.Contexts.{object, step_pair, steps_value}
use Rattle.board_decisions.proofs.Overlays.{steps_next, steps_end}
use Rattle.board_decisions.proofs.contexts.steps_node.Goals as goal
use Rattle.flow_model.proofs.Conversions.{drop-next}

pub loop-place-preserved : goal.loop-place-preserved
loop-place-preserved c =
    let plans = c.as_slice-plans.result.now in
    let steps = c.as_slice-steps.result.now in
    let i = c.loop-place.place in
    let done = c.index-steps-place.result in
    let made = viewed c.loop-place.made in
    let here : drop i steps ≡ done ∷ drop (i + 1) steps = drop-next steps i done c.loop-place-test.true c.index-steps-place.is in
    rw (c.in_ok-put_step.ensures, c.plan_at.ensures)
    (sym (steps_next plans i done (drop (i + 1) steps) made)
    ∙ ap (λ (ss : List DoneStep). laid_over (filter_map step_pair (zip (drop i plans) ss)) made) (sym here)
    ∙ c.loop-place.invariant)

pub returns : goal.returns
unfolding steps_value
returns c =
    let plans = c.as_slice-plans.result.now in
    let steps = c.as_slice-steps.result.now in
    c.map_node.ensures
    ∙ ap object (sym (steps_end plans c.loop-place.place steps (viewed c.loop-place.made) c.loop-place-test.false) ∙ c.loop-place.invariant)
    ∙ (λ j. object (laid_over (filter_map step_pair (zip (c.as_slice-plans.ensures j) (c.as_slice-steps.ensures j))) []))
