use Rattle.std.proofs.Common.{Option, OnOk, ap, sym, subst, ◌∙◌}
use Rattle.status_table.specs.Words.{Member, holder, waiter}
use Rattle.why_facts.specs.Adds.{Adds}
use Rattle.why_notes.proofs.changes.add_grouped.Goals as goal
use Rattle.why_notes.specs.Changes.{enters_held}

pub returns-in-Some : goal.returns-in-Some
returns-in-Some c =
    let board = c.args.table.now.board in
    let group = c.args.group.now in
    subst (λ (held : Option Member). OnOk c.add_held.result
    (Adds c.args.out.now.items c.add_held.new.out.items (enters_held c.args.entrant.who c.args.entrant.own group held (waiter board group.name))))
    (sym c.in-Some.is ∙ c.holder.ensures ∙ ap (holder board) c.as_str.ensures) c.add_held.ensures
