use Rattle.std.proofs.Common.{◌<◌, ap, subst, sym, ◌∙◌, length}
use Rattle.crossbeam_queue.specs.Passes.{view}
use Rattle.ready_queue.specs.Records.{all_put, all_taken}
use Rattle.ready_queue.proofs.Houses.{house_takes, house_goes}
use Rattle.ready_queue.proofs.Counts.{recount, take_live, take_puts, take_takes}
use Rattle.ready_queue.proofs.queue.HouseQueue.take.Goals as goal

pub pop_as-requires-clause-rule : goal.pop_as-requires-clause-rule
pop_as-requires-clause-rule g c = (house_takes g.H.HouseRule.holds _ _ c.args.pass.now.live c.requires.house, house_goes _ _ _)

pub invariant_of-pass-2 : goal.invariant_of-pass-2
invariant_of-pass-2 g c =
    let v = view c.args.pass.now.seat in
    let x = c.in_ok-ticket.ticket in
    let by = c.in_ok-ticket.ensures.rule.0 in
    let is = c.in_ok-ticket.ensures.rule.2 in
    record {
      live = subst (λ rs. 0 < length rs) (sym is) (take_live v x by c.args.pass.now.live);
      counts = recount _ _ _ _ c.with_taken-pass.result (ap (λ rs. length (all_put rs)) is ∙ take_puts v x by) (ap (λ rs. length (all_taken rs)) is ∙ take_takes v x by c.args.pass.now.live) (c.with_taken-pass.ensures _ _ c.args.pass.now.counts);
    }
