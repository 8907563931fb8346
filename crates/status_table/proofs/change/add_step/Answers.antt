use Rattle.std.proofs.Common.{◌≡◌, List, ap, sym}
use Rattle.status_table.specs.Words.{DoneStep, Leg}
use Rattle.status_table.proofs.Kept.{leg_kept, OnErr-always}
use Rattle.status_table.proofs.change.add_step.Goals as goal

pub returns-in_err-push-clause-err : goal.returns-in_err-push-clause-err
returns-in_err-push-clause-err c =
    let run = c.in-Some.run'.now in
    let job = c.in-Some-get_mut.job.now in
    let leg = c.in-Some-get_mut-2.leg.now in
    let put : Leg = record leg { steps = c.push.new.self } in
    let same : put ≡ leg = ap (λ (steps : List DoneStep). record leg { steps = steps }) c.in_err-push.ensures.err in
    OnErr-always c.from_residual.result
    (leg_kept c.args.board.now c.args.place run job leg put (sym c.in-Some.ensures.value) (sym c.in-Some-get_mut.ensures.value) (sym c.in-Some-get_mut-2.ensures.value) same)
