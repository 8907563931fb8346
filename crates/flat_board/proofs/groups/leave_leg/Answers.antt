use Rattle.std.proofs.Common.{◌≡◌, ap, subst, sym, ◌∙◌}
use Rattle.flat_board.specs.Words.{IsGroup, Leaves, Leg, Member, StandsOnlyThere, content, standing_by}
use Rattle.board_decisions.proofs.Lists.{same_some}
use Rattle.flat_board.proofs.groups.leave_leg.Goals as goal

pub returns-in-Some-clause-leaves : goal.returns-in-Some-clause-leaves
returns-in-Some-clause-leaves c = λ b leg stood named there of_leg only.
    let m = Member.Leg c.args.number in
    let groups = content c.args.groups.now in
    let same : c.in-Some.leg.now ≡ leg = same_some c.in-Some.leg.now leg (c.in-Some.ensures ∙ there) in
    subst (λ (l : Leg). Leaves c.leave.result b m (standing_by stood l.group) groups (content c.leave.new.groups)) same
    (c.leave.ensures.leaves b stood (subst (λ (l : Leg). IsGroup l.group) (sym same) named) (of_leg ∙ ap (λ (l : Leg). l.group) (sym same)) (subst (λ (l : Leg). StandsOnlyThere groups m (standing_by stood l.group)) (sym same) only))
