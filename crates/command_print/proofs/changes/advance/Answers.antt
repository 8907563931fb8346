use Rattle.std.proofs.Common.{ap, sym, subst, ◌∙◌}
use Rattle.command_print.specs.Touched.{KeepsUntouched, touched_by}
use Rattle.command_print.specs.declared.touched.Touched.{Touched}
use Rattle.command_print.proofs.Touching.{touching-alone}
use Rattle.command_print.proofs.changes.advance.Goals as goal

pub returns-clause-others : goal.returns-clause-others
returns-clause-others g c =
    let plan = g.T.Table.plan c.args.table.now in
    let old = g.T.Table.board c.args.table.now in
    let new = g.T.Table.board c.play.new.table in
    subst (λ (touched : Touched). KeepsUntouched touched old new) (sym (c.touched_by.ensures ∙ ap (touched_by c.args.entry.now.event) c.moved.ensures))
    (touching-alone plan old new c.args.entry.now (sym c.names_others.ensures ∙ c.if-names_others.false) c.in_ok-play.ensures.plays)
