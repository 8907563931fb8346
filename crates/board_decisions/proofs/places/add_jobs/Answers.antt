use Rattle.std.proofs.Common.{ℕ, ◌++◌, map, ap, ◌∙◌}
use Rattle.flow_model.proofs.Conversions.{drop-next}
use Rattle.board_decisions.specs.Places.{leg_of, numbers}
use Rattle.board_decisions.proofs.Placed.{jobs_more}
use Rattle.board_decisions.proofs.places.add_jobs.Goals as goal

pub loop-place-preserved : goal.loop-place-preserved
loop-place-preserved c =
    let i = c.loop-place.place in
    let jobs = c.args.jobs.now in
    let job = c.index-jobs-place.result in
    let old = c.loop-place.places.items in
    jobs_more c.args.run i jobs job old c.add_legs.new.places.items (drop-next jobs i job c.loop-place-test.true c.index-jobs-place.is)
    (c.in_ok-add_legs.ensures ∙ ap (λ (n : ℕ). old ++ map (leg_of c.args.run i) (numbers n)) c.len.ensures)
    ∙ c.loop-place.invariant
