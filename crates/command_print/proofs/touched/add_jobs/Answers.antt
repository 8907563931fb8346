use Rattle.std.proofs.Common.{subst}
use Rattle.command_print.specs.Touched.{RunsStand}
use Rattle.command_print.specs.declared.touched.Touched.{Touched}
use Rattle.command_print.proofs.LegTexts.{run-told}
use Rattle.command_print.proofs.touched.add_jobs.Goals as goal

pub returns-in-Legs : goal.returns-in-Legs
returns-in-Legs c =
    let before = c.args.boards.now.before.now in
    let board = c.args.boards.now.board.now in
    let span = c.args.span in
    run-told c.add_legs.result c.in-Legs.members span.first span.next before board c.args.was.now c.args.run.now c.args.text.now c.add_legs.new.text
    (subst (λ (touched : Touched). RunsStand touched span.first before board c.args.was.now c.args.run.now) c.in-Legs.is c.requires.stand) c.requires.next c.add_legs.ensures
