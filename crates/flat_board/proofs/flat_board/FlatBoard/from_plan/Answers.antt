use Rattle.std.proofs.Common.{ap, subst, ◌∙◌}
use Rattle.flat_board.specs.Words.{IsPlan, Play, SoundPlan}
use Rattle.flat_board.proofs.Playing.{new_sound}
use Rattle.flat_board.proofs.flat_board.FlatBoard.from_plan.Goals as goal

pub invariant_of-result : goal.invariant_of-result
invariant_of-result c =
    let same = c.plan-plan.ensures.same ∙ ap (λ (s : Play). s.plan) (c.counted.ensures ∙ c.in_ok-state.ensures) in
    new_sound c.args.plan (record { state = c.in_ok-state.state; groups = c.new-groups.result; alloc = c.args.alloc }) (subst IsPlan same c.plan-plan.ensures.sound) (subst SoundPlan same c.plan-plan.ensures.rules)
    c.in_ok-state.ensures c.new-groups.ensures
