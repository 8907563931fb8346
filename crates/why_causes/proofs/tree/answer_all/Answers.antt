use Rattle.std.proofs.Common.{◌-◌, ◌++◌, List, reverse, sym, ap, ◌∙◌}
use Rattle.std.proofs.lemmas.List.{append-nil}
use Rattle.why_causes.proofs.Trees.{no_more, one_more}
use Rattle.why_causes.specs.Tree.{lines, most_lines}
use Rattle.why_causes.specs.declared.tree.Asked.{Asked}
use Rattle.why_causes.specs.declared.tree.Line.{Line}
use Rattle.why_causes.proofs.tree.answer_all.Goals as goal
use Rattle.why_notes.specs.Account.{account_seen}

pub returns-in_default : goal.returns-in_default
returns-in_default c =
    let a = account_seen c.args.account.now in
    let told = c.loop-turn.told in
    let out = c.loop-turn.out.items in
    let left = most_lines - c.loop-turn.turn in
    sym (append-nil out)
    ∙ sym (ap (λ (ls : List Line). out ++ ls) (no_more left a told))
    ∙ sym (ap (λ (s : List Asked). out ++ lines left a (reverse s) told) c.in_default.ensures)
    ∙ c.loop-turn.invariant

pub loop-turn-preserved : goal.loop-turn-preserved
loop-turn-preserved c =
    one_more most_lines c.loop-turn.turn (account_seen c.args.account.now) c.loop-turn.stack.items c.take_last.new.stack.items
    c.descend.new.stack.items c.in-Some.asked c.loop-turn.told c.descend.new.told c.loop-turn.out.items c.add_line.new.out.items
    c.is_told-above.result c.loop-turn-test.true c.in-Some.ensures c.is_told-above.ensures c.in_ok-add_line.ensures
    c.in_ok-descend.ensures.told c.in_ok-descend.ensures.stack
    ∙ c.loop-turn.invariant
