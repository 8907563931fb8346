use Rattle.std.proofs.Common.{rules, ◌≡◌, ap, arith, ◌∙◌}
use Rattle.std.proofs.lemmas.Grind.{common_steps}
use Rattle.flat_board.specs.Words.{after_enter, content, fold}
use Rattle.status_table.proofs.Kept.{put_out_noted}
use Rattle.flat_board.proofs.Index.{queued_back}
use Rattle.flat_board.proofs.grouped_board.GroupedBoard.queue.Goals as goal

pub returns : goal.returns
returns c =
    let entrant = c.args.asked.entrant in
    let groups = content c.args.self.now.groups in
    let named = c.requires.named in
    let entered : content c.enter.new.self ≡ after_enter (fold c.as_str.result.now) entrant.who entrant.own groups = search rules in
    record {
      plan = search rules;
      answers = grind (arith, common_steps, put_out_noted);
      groups = search rules;
      back = search rules;
      cell = queued_back c.args.self.now.state.board c.args.asked.group.name entrant.who entrant.own c.args.held groups (content c.enter.new.self) named c.requires.held c.requires.other
          (entered ∙ ap (λ n. after_enter n entrant.who entrant.own groups) (ap fold c.as_str.ensures ∙ named.folded));
    }
