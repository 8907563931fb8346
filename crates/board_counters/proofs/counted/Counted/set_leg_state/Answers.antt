use Rattle.std.proofs.Common.{ap, refl, sym, ◌∙◌}
use Rattle.board_counters.specs.Words.{Leg, failing_of}
use Rattle.board_counters.proofs.Failings.{leg_failing_kept}
use Rattle.board_counters.proofs.Followed.{leg_counted}
use Rattle.board_counters.proofs.Stops.{leg_told_kept}
use Rattle.board_counters.proofs.Tallies.{came_to, same_so}
use Rattle.board_counters.proofs.counted.Counted.set_leg_state.Goals as goal

pub recount_to-requires : goal.recount_to-requires
recount_to-requires c =
    let put : Leg → Leg = λ leg. record leg { state = c.args.to } in
    came_to c.self.inside.board c.exchange_state_at-was.new.board c.args.place put c.exchange_state_at-was.result c.args.to c.exchange_state_at-was.ensures.was c.exchange_state_at-was.ensures.board (λ leg. refl)

pub invariant_of-self : goal.invariant_of-self
invariant_of-self c =
    let put : Leg → Leg = λ leg. record leg { state = c.args.to } in
    leg_counted c.self.inside.plan c.self.inside.board c.exchange_state_at-was.new.board c.args.place put c.exchange_state_at-was.result _ c.self.inside.counts c.recount_to.new.counts
    c.recount_to.new.counts.legs c.self.inside.failing c.self.inside.failing c.self.inside.lasting c.self.invariant c.exchange_state_at-was.ensures.board
    (same_so c.self.inside.board c.exchange_state_at-was.new.board c.args.place c.exchange_state_at-was.result _ c.exchange_state_at-was.ensures.was refl) c.recount_to.ensures
    (leg_told_kept c.self.inside.board c.exchange_state_at-was.new.board c.args.place put c.self.inside.counts.legs c.recount_to.new.counts.legs c.self.invariant.counted.told c.exchange_state_at-was.ensures.board (λ leg. refl) c.recount_to.ensures.legs)
    (c.self.invariant.failed ∙ sym (leg_failing_kept c.self.inside.board c.args.place put (λ leg at. refl)) ∙ ap failing_of (sym c.exchange_state_at-was.ensures.board))
