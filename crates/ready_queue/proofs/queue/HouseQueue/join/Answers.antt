use Rattle.std.proofs.Common.{◌<◌, ap, subst, sym, ◌∙◌, length}
use Rattle.crossbeam_queue.specs.Passes.{view}
use Rattle.ready_queue.specs.Records.{all_put, all_taken}
use Rattle.ready_queue.proofs.Moves.{orders}
use Rattle.ready_queue.proofs.Houses.{of_queue, house_joins}
use Rattle.ready_queue.proofs.Sharing.{names_joined}
use Rattle.ready_queue.proofs.Counts.{recount, both_live, both_puts, both_takes}
use Rattle.ready_queue.proofs.queue.HouseQueue.join.Goals as goal

pub absorb-requires-clause-rule : goal.absorb-requires-clause-rule
absorb-requires-clause-rule g c = house_joins _ _ _ _ _ c.requires.house

pub learn_as-requires-clause-rule : goal.learn_as-requires-clause-rule
learn_as-requires-clause-rule g c = of_queue _ _ _ _ (orders _ _)

pub invariant_of-result : goal.invariant_of-result
invariant_of-result g c =
    let v = view c.args.pass.seat in
    let w = view c.args.other.seat in
    let is = c.learn_as.ensures.queue.1 ∙ c.absorb.ensures.rule in
    record {
      live = subst (λ rs. 0 < length rs) (sym is) (both_live v w c.args.pass.live);
      counts = recount _ _ _ _ c.joined-tally.result (ap (λ rs. length (all_put rs)) is ∙ both_puts v w) (ap (λ rs. length (all_taken rs)) is ∙ both_takes v w) (c.joined-tally.ensures _ _ _ _ c.args.pass.counts c.args.other.counts);
    }

pub returns-clause-names : goal.returns-clause-names
returns-clause-names g c = names_joined _ _ _ (c.learn_as.ensures.queue.1 ∙ c.absorb.ensures.rule)
