use Rattle.std.proofs.Common.{List, ◌++◌, ap, ◌∙◌}
use Rattle.plan_values.specs.Words.{Job}
use Rattle.flow_model.proofs.Conversions.{drop-next}
use Rattle.board_decisions.specs.Places.{sizes, legs_from}
use Rattle.board_decisions.proofs.Placed.{runs_more}
use Rattle.board_decisions.proofs.places.leg_places.Goals as goal

pub loop-place-preserved : goal.loop-place-preserved
loop-place-preserved c =
    let i = c.loop-place.place in
    let runs = c.args.runs.now in
    let run = c.index-runs-place.result in
    let old = c.loop-place.places.items in
    runs_more i runs run old c.add_jobs.new.places.items (drop-next runs i run c.loop-place-test.true c.index-runs-place.is)
    (c.in_ok-add_jobs.ensures ∙ ap (λ (jobs : List Job). old ++ legs_from i 0 (sizes jobs)) c.as_slice.ensures)
    ∙ c.loop-place.invariant
