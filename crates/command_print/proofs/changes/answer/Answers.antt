use Rattle.std.proofs.Common.{sym, subst}
use Rattle.status_table.specs.Words.{Entry}
use Rattle.command_print.specs.Touched.{KeepsUntouched, touched_by}
use Rattle.command_print.specs.declared.touched.Touched.{Touched}
use Rattle.command_print.proofs.Touching.{touching}
use Rattle.command_print.proofs.changes.answer.Goals as goal

pub returns-clause-others : goal.returns-clause-others
returns-clause-others g c =
    let plan = g.T.Table.plan c.args.table.now in
    let old = g.T.Table.board c.args.table.now in
    let new = g.T.Table.board c.apply.new.self in
    let copy = c.in_ok-copy.copy in
    let reply = c.in_ok-reply.reply in
    subst (λ (touched : Touched). KeepsUntouched touched old new) (sym c.touched_by.ensures)
    (subst (λ (entry : Entry). KeepsUntouched (touched_by entry.event reply) old new) c.in_ok-copy.ensures
    (touching plan old new copy reply c.in_ok-reply.ensures.answers))
