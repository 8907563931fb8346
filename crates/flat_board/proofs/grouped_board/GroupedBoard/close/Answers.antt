use Rattle.std.proofs.Common.{◌≡◌, Some, ap, rules, subst, sym, ◌∙◌}
use Rattle.flat_board.specs.Words.{Play, content, run_at, run_left, run_seen}
use Rattle.flat_board.proofs.Leaving.{run_has_left}
use Rattle.flat_board.proofs.Reached.{run_found_named}
use Rattle.flat_board.proofs.grouped_board.GroupedBoard.close.Goals as goal

pub next_after-next-requires : goal.next_after-next-requires
next_after-next-requires c =
    let at = run_seen c.in-Some.at in
    let found = subst (λ (s : Play). run_at s.plan s.board c.args.number ≡ Some at) c.counted-play.ensures
    ((λ i. run_at (sym c.plan.ensures.same i) (sym c.board.ensures i) c.args.number) ∙ sym c.in-Some.ensures) in
    run_found_named c.args.self.now.state.plan c.args.self.now.state.board c.args.self.now.groups c.args.number at c.requires.names found

pub returns : goal.returns
returns c =
    let p = c.args.self.now.state.plan in
    let b = c.args.self.now.state.board in
    let groups = content c.args.self.now.groups in
    let at = run_seen c.in-Some.at in
    let found = subst (λ (s : Play). run_at s.plan s.board c.args.number ≡ Some at) c.counted-play.ensures
    ((λ i. run_at (sym c.plan.ensures.same i) (sym c.board.ensures i) c.args.number) ∙ sym c.in-Some.ensures) in
    let left = run_has_left p b groups c.args.number at c.requires.kept found c.run_stand-stand.result c.run_stand-stand.ensures c.leave-cell.result (content c.leave-cell.new.groups)
    (run_found_named p b c.args.self.now.groups c.args.number at c.requires.names found) (c.leave-cell.ensures.leaves b) in
    record {
      plan = search rules;
      answers = search rules;
      groups = record { held = left.to ∙ ap (run_left groups c.args.number) (sym found); known = c.leave-cell.ensures.known };
      back = search rules;
      cell = left.back;
    }
