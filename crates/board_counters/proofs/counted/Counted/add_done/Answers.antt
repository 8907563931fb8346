use Rattle.std.proofs.Common.{false, [], ◌∷◌, ◌++◌, refl}
use Rattle.board_counters.specs.Words.{Leg, LegState}
use Rattle.board_counters.proofs.Failings.{failing_done}
use Rattle.board_counters.proofs.Followed.{leg_counted}
use Rattle.board_counters.proofs.Stops.{leg_told_kept}
use Rattle.board_counters.proofs.Tallies.{came_to, same_so}
use Rattle.board_counters.proofs.counted.Counted.add_done.Goals as goal

pub recount_to-requires : goal.recount_to-requires
recount_to-requires c =
    let done : Leg → Leg = λ leg. record leg { state = LegState.Running c.args.worker false; steps = leg.steps ++ c.args.done ∷ [] } in
    came_to c.self.inside.board c.push_step_at.new.board c.args.place done c.in_ok-was.was' (LegState.Running c.args.worker false) c.in_ok-was.ensures.was c.in_ok-was.ensures.ok (λ leg. refl)

pub invariant_of-self-2 : goal.invariant_of-self-2
invariant_of-self-2 c =
    let done : Leg → Leg = λ leg. record leg { state = LegState.Running c.args.worker false; steps = leg.steps ++ c.args.done ∷ [] } in
    leg_counted c.self.inside.plan c.self.inside.board c.push_step_at.new.board c.args.place done c.in_ok-was.was' _ c.self.inside.counts c.recount_to.new.counts
    c.recount_to.new.counts.legs c.self.inside.failing c.note_done.new.failing c.self.inside.lasting c.self.invariant c.in_ok-was.ensures.ok
    (same_so c.self.inside.board c.push_step_at.new.board c.args.place c.in_ok-was.was' _ c.in_ok-was.ensures.was refl) c.recount_to.ensures
    (leg_told_kept c.self.inside.board c.push_step_at.new.board c.args.place done c.self.inside.counts.legs c.recount_to.new.counts.legs c.self.invariant.counted.told c.in_ok-was.ensures.ok (λ leg. refl) c.recount_to.ensures.legs)
    (failing_done c.self.inside.board c.push_step_at.new.board c.args.place c.args.worker c.args.done c.is_failure-failed.result c.self.inside.failing c.note_done.new.failing c.self.invariant.failed
    c.in_ok-was.ensures.ok c.is_failure-failed.ensures c.note_done.ensures)
