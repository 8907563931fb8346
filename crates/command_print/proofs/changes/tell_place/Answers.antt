use Rattle.std.proofs.Common.{sym, subst}
use Rattle.status_table.specs.Words.{Board}
use Rattle.command_print.specs.Touched.{StandAlike}
use Rattle.command_print.proofs.Shapes.{boards-alike}
use Rattle.command_print.proofs.changes.tell_place.Goals as goal

pub add_place_changes-requires-clause-alike : goal.add_place_changes-requires-clause-alike
add_place_changes-requires-clause-alike g c =
    let plan = g.T.Table.plan in
    let board = g.T.Table.board in
    let there = sym c.lend.ensures.board in
    let here = sym c.lend-2.ensures.board in
    subst (λ (both : Board × Board). StandAlike c.args.index.now both.0 both.1) (λ i. (there i, here i))
    (boards-alike c.args.index.now (plan c.args.before.now) (plan c.args.board.now) (board c.args.before.now) (board c.args.board.now) c.requires.plan
    c.lend.ensures.in_play c.lend-2.ensures.in_play c.requires.index)

pub returns-clause-index : goal.returns-clause-index
returns-clause-index g c =
    let plan = g.T.Table.plan in
    let board = g.T.Table.board in
    (boards-alike c.args.index.now (plan c.args.before.now) (plan c.args.board.now) (board c.args.before.now) (board c.args.board.now) c.requires.plan
    c.lend.ensures.in_play c.lend-2.ensures.in_play c.requires.index).here
