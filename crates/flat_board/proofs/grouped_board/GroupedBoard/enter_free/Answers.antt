use Rattle.std.proofs.Common.{ap, rules, ◌∙◌}
use Rattle.flat_board.specs.Words.{after_enter, content, fold}
use Rattle.flat_board.proofs.Index.{free_back}
use Rattle.flat_board.proofs.grouped_board.GroupedBoard.enter_free.Goals as goal

pub returns : goal.returns
returns c =
    let entrant = c.args.asked.entrant in
    let groups = content c.args.self.now.groups in
    let named = c.requires.named in
    record {
      plan = search rules;
      answers = search rules;
      groups = search rules;
      back = search rules;
      cell = free_back c.args.self.now.state.board c.args.asked.group.name entrant.who entrant.own groups (content c.enter.new.self) named c.requires.free
          (c.in_ok-enter.ensures.ok ∙ ap (λ n. after_enter n entrant.who entrant.own groups) (ap fold c.as_str.ensures ∙ named.folded));
    }
