use Rattle.std.proofs.Common.{ap, sym, ◌∙◌}
use Rattle.board_counters.specs.Words.{any_failed, changed, failing_of, leg_after, told_turned}
use Rattle.board_counters.proofs.Failings.{leg_failing_kept, steps_stay}
use Rattle.board_counters.proofs.Followed.{leg_counted}
use Rattle.board_counters.proofs.Stops.{told_exchanged}
use Rattle.board_counters.proofs.Tallies.{exchanged_told}
use Rattle.board_counters.proofs.counted.Counted.change_leg.Goals as goal

pub invariant_of-self : goal.invariant_of-self
invariant_of-self c =
    leg_counted c.self.inside.plan c.self.inside.board c.exchange_leg_at-how.new.board c.args.place (leg_after c.args.how) c.state_in-was.result c.state_in-is.result c.self.inside.counts c.recount_leg.new.counts
    c.retell.new.legs c.self.inside.failing c.self.inside.failing c.self.inside.lasting c.self.invariant c.exchange_leg_at-how.ensures.board
    (exchanged_told c.self.inside.board c.exchange_leg_at-how.new.board c.args.place c.args.how c.exchange_leg_at-how.result c.state_in-was.result c.state_in-is.result
    c.exchange_leg_at-how.ensures.board c.exchange_leg_at-how.ensures.was c.state_in-was.ensures c.state_in-is.ensures)
    c.recount_leg.ensures
    (told_exchanged c.self.inside.board c.exchange_leg_at-how.new.board c.args.place c.args.how c.exchange_leg_at-how.result c.stop_in.result c.stop_in-is_told.result c.self.inside.counts.legs c.retell.new.legs
    c.self.invariant.counted.told c.exchange_leg_at-how.ensures.board c.exchange_leg_at-how.ensures.was c.stop_in.ensures c.stop_in-is_told.ensures
    (c.retell.ensures ∙ ap (λ ts. changed ts c.args.place.run (told_turned c.stop_in.result c.stop_in-is_told.result)) c.recount_leg.ensures.legs))
    (c.self.invariant.failed ∙ sym (leg_failing_kept c.self.inside.board c.args.place (leg_after c.args.how) (λ leg at. ap any_failed (steps_stay c.args.how leg))) ∙ ap failing_of (sym c.exchange_leg_at-how.ensures.board))
