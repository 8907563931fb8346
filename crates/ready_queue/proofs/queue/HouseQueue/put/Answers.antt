use Rattle.std.proofs.Common.{◌<◌, ap, subst, sym, ◌∙◌, length}
use Rattle.crossbeam_queue.specs.Passes.{view}
use Rattle.ready_queue.specs.Records.{all_put, all_taken}
use Rattle.ready_queue.proofs.Counts.{recount, put_live, put_puts, put_takes}
use Rattle.ready_queue.proofs.queue.HouseQueue.put.Goals as goal

pub invariant_of-pass-2 : goal.invariant_of-pass-2
invariant_of-pass-2 g c =
    let v = view c.args.pass.now.seat in
    let x = c.args.ticket in
    let is = c.in_ok-put_within.ensures.step.0 in
    record {
      live = subst (λ rs. 0 < length rs) (sym is) (put_live v x c.args.pass.now.live);
      counts = recount _ _ _ _ c.with_put-pass.result (ap (λ rs. length (all_put rs)) is ∙ put_puts v x c.args.pass.now.live) (ap (λ rs. length (all_taken rs)) is ∙ put_takes v x) (c.with_put-pass.ensures _ _ c.args.pass.now.counts);
    }
