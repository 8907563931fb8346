use Rattle.std.proofs.Common.{◌+◌, ◌<◌, ◌≤◌, List, [], ◌∷◌, length, drop, ap, sym, ◌∙◌, arith, rules}
use Rattle.std.proofs.lemmas.List.{length-append, drop_all}
use Rattle.board_settled.specs.Words.{DoneStep, job_seen, planned, steps_from}
use Rattle.board_settled.proofs.LegSteps.{one_more, no_more}
use Rattle.board_settled.proofs.leg.play_steps.Goals as goal

pub returns-in-None : goal.returns-in-None
returns-in-None g c = λ answers are.
    let left : c.loop-done._done < length c.args.spot.now.at.now.plan.now.steps = search rules in
    no_more answers c.args.spot.now.number (job_seen c.args.spot.now.at.now) c.args.spot.now.place c.loop-done.leg c.requires c.loop-done.invariant.idle c.loop-done._done c.loop-done.invariant.many left
    c.in_ok-done.field-0 (λ step is. c.in_ok-done.ensures step is answers are) (c.loop-done.invariant.goes_on answers are) c.in-None.is

pub loop-done-preserved : goal.loop-done-preserved
loop-done-preserved g c =
    let left : c.loop-done._done < length c.args.spot.now.at.now.plan.now.steps = search rules in
    let pushed = c.in_ok-push-in-Some.ensures.ok in
    record {
      idle = record { state = c.loop-done.invariant.idle.state; goes = c.loop-done.invariant.idle.goes };
      many = ap length pushed ∙ length-append c.loop-done.leg.steps (c.in-Some.done ∷ []) ∙ ap (λ n. n + 1) c.loop-done.invariant.many;
      goes_on = λ answers are.
          ap (λ (done : List DoneStep).
          steps_from answers (planned c.args.spot.now.number (job_seen c.args.spot.now.at.now) c.args.spot.now.place) done (drop (c.loop-done._done + 1) c.args.spot.now.at.now.plan.now.steps)) pushed
          ∙ one_more answers c.args.spot.now.number (job_seen c.args.spot.now.at.now) c.args.spot.now.place c.loop-done.leg c.requires c.loop-done.invariant.idle c.loop-done._done c.loop-done.invariant.many left
          c.in_ok-done.field-0 (λ step is. c.in_ok-done.ensures step is answers are) (c.loop-done.invariant.goes_on answers are) c.in-Some.done c.in-Some.is;
    }

pub returns : goal.returns
returns g c = λ answers are.
    let through : length c.args.spot.now.at.now.plan.now.steps ≤ c.loop-done._done = search rules in
    let all = c.loop-done.invariant.goes_on answers are in
    let bound : c.loop-done._done ≤ length c.args.spot.now.at.now.plan.now.steps = search rules in
    let many = c.loop-done.invariant.many in (
      c.loop-done.invariant.idle,
      sym (ap (steps_from answers (planned c.args.spot.now.number (job_seen c.args.spot.now.at.now) c.args.spot.now.place) c.loop-done.leg.steps) (drop_all c.loop-done._done c.args.spot.now.at.now.plan.now.steps through)) ∙ all,
      omega (arith, through, bound, many),
    )
