use Rattle.std.proofs.Common.{◌≡◌, Some, ap, rules, subst, sym, ◌∙◌}
use Rattle.flat_board.specs.Words.{Play, content, leg_at, leg_left, leg_seen}
use Rattle.flat_board.proofs.Leaving.{dropped_has_left}
use Rattle.flat_board.proofs.Reached.{leg_found_named}
use Rattle.flat_board.proofs.grouped_board.GroupedBoard.discard.Goals as goal

pub next_after-next-requires : goal.next_after-next-requires
next_after-next-requires c =
    let at = leg_seen c.in-Some.leg.at in
    let found = subst (λ (s : Play). leg_at s.plan s.board c.args.number ≡ Some at) c.counted.ensures (sym c.in-Some.ensures.found) in
    leg_found_named c.args.self.now.state.plan c.args.self.now.state.board c.args.self.now.groups c.args.number at c.requires.names found

pub returns : goal.returns
returns c =
    let p = c.args.self.now.state.plan in
    let b = c.args.self.now.state.board in
    let groups = content c.args.self.now.groups in
    let at = leg_seen c.in-Some.leg.at in
    let found = subst (λ (s : Play). leg_at s.plan s.board c.args.number ≡ Some at) c.counted.ensures (sym c.in-Some.ensures.found) in
    let left = dropped_has_left p b groups c.args.number at c.requires.kept found c.leg_stand-stand.result c.leg_stand-stand.ensures c.board.result.now c.leave_leg-cell.result (content c.leave_leg-cell.new.groups)
    (leg_found_named p b c.args.self.now.groups c.args.number at c.requires.names found) (c.leave_leg-cell.ensures.leaves b) _
    (c.board.ensures ∙ ap (λ (s : Play). s.board) c.counted-2.ensures ∙ c.in_ok-drop_leg.ensures.ok) in
    record {
      plan = search rules;
      answers = search rules;
      groups = record { held = left.to ∙ ap (leg_left groups c.args.number) (sym found); known = c.leave_leg-cell.ensures.known };
      back = search rules;
      cell = left.back;
    }
