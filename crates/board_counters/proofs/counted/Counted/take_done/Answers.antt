use Rattle.std.proofs.Common.{refl}
use Rattle.board_counters.specs.Words.{step_taken}
use Rattle.board_counters.proofs.Failings.{failing_off}
use Rattle.board_counters.proofs.Followed.{leg_counted}
use Rattle.board_counters.proofs.Stops.{leg_told_kept}
use Rattle.board_counters.proofs.Tallies.{came_to, same_so}
use Rattle.board_counters.proofs.counted.Counted.take_done.Goals as goal

pub recount_to-requires : goal.recount_to-requires
recount_to-requires c =
    came_to c.self.inside.board c.take_step_at.new.board c.args.place (step_taken c.args.state) c.state_there-was.result c.args.state c.state_there-was.ensures c.take_step_at.ensures (λ leg. refl)

pub invariant_of-self : goal.invariant_of-self
invariant_of-self c =
    leg_counted c.self.inside.plan c.self.inside.board c.take_step_at.new.board c.args.place (step_taken c.args.state) c.state_there-was.result _ c.self.inside.counts c.recount_to.new.counts
    c.recount_to.new.counts.legs c.self.inside.failing c.note_taken.new.failing c.self.inside.lasting c.self.invariant c.take_step_at.ensures
    (same_so c.self.inside.board c.take_step_at.new.board c.args.place c.state_there-was.result _ c.state_there-was.ensures refl) c.recount_to.ensures
    (leg_told_kept c.self.inside.board c.take_step_at.new.board c.args.place (step_taken c.args.state) c.self.inside.counts.legs c.recount_to.new.counts.legs c.self.invariant.counted.told c.take_step_at.ensures (λ leg. refl) c.recount_to.ensures.legs)
    (failing_off c.self.inside.board c.take_step_at.new.board c.args.place c.args.state c.self.inside.failing c.note_taken.new.failing c.self.invariant.failed c.take_step_at.ensures c.note_taken.ensures)
