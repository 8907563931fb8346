use Rattle.std.proofs.Common.{◌≡◌, Option, Some, refl, rules, subst, sym, ◌∙◌}
use Rattle.flat_board.specs.Words.{Goes, LegAt, Play, answer_of, content, leg_asked, leg_at, leg_entrance, leg_seen}
use Rattle.flat_board.proofs.Named.{given_named, leg_asks}
use Rattle.flat_board.proofs.Reached.{asks_outside}
use Rattle.flat_board.proofs.grouped_board.GroupedBoard.ask.Goals as goal

pub enter_leg-requires-clause-named : goal.enter_leg-requires-clause-named
enter_leg-requires-clause-named c =
    let at = leg_seen c.in-Some.leg.at in given_named c.leg_entrance-group.result (leg_entrance at) c.leg_entrance-group.ensures (leg_asks at)

pub enter_leg-requires-clause-outside : goal.enter_leg-requires-clause-outside
enter_leg-requires-clause-outside c =
    asks_outside c.args.self.now.state.plan c.args.self.now.state.board (content c.args.self.now.groups) c.args.number (leg_seen c.in-Some.leg.at) c.requires.kept
    (subst (λ (s : Play). leg_at s.plan s.board c.args.number ≡ Some (leg_seen c.in-Some.leg.at)) c.counted.ensures (sym c.in-Some.ensures.found)) (sym c.may_ask.ensures ∙ c.if-not-may_ask.false) (sym c.is_full.ensures ∙ c.if-is_full.false)
    (sym c.in_ok-is_stopping.ensures ∙ c.if-branch.false)

pub returns : goal.returns
returns c =
    let at = leg_seen c.in-Some.leg.at in
    let found = subst (λ (s : Play). leg_at s.plan s.board c.args.number ≡ Some at) c.counted.ensures (sym c.in-Some.ensures.found) in
    let entered = c.enter_leg.ensures at (leg_entrance at) refl c.leg_entrance-group.ensures in
    record {
      plan = entered.plan;
      answers = search rules;
      groups = subst (λ (o : Option LegAt). Goes (answer_of c.enter_leg.result) c.args.self.now.groups (leg_asked (content c.args.self.now.groups) c.args.number o) c.enter_leg.new.self.groups) (sym found) entered.groups;
      back = entered.back;
      cell = entered.cell;
    }
