use Rattle.std.proofs.Common.{ℕ, ◌++◌, map, ap, ◌∙◌}
use Rattle.flow_model.proofs.Conversions.{drop-next}
use Rattle.board_decisions.specs.Places.{job_in, numbers}
use Rattle.board_decisions.proofs.Placed.{run_jobs_more}
use Rattle.board_decisions.proofs.places.job_places.Goals as goal

pub loop-place-preserved : goal.loop-place-preserved
loop-place-preserved c =
    let i = c.loop-place.place in
    let runs = c.args.runs.now in
    let run = c.index-runs-place.result in
    let old = c.loop-place.places.items in
    run_jobs_more i runs run old c.add_run_jobs.new.places.items (drop-next runs i run c.loop-place-test.true c.index-runs-place.is)
    (c.in_ok-add_run_jobs.ensures ∙ ap (λ (n : ℕ). old ++ map (job_in i) (numbers n)) c.len.ensures)
    ∙ c.loop-place.invariant
