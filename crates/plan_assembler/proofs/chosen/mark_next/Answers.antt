use Rattle.std.proofs.Common.{◌<◌, length, arith}
use Rattle.plan_assembler.proofs.Marks.{mark_next, fewer_unmarked}
use Rattle.plan_assembler.proofs.chosen.mark_next.Goals as goal

pub bounds-marks-need : goal.bounds-marks-need
bounds-marks-need c =
    omega (arith, c.requires.graph c.requires.next.needer c.args.need c.requires.next.needed, c.requires.marking.one_each)

pub returns-clause-marking : goal.returns-clause-marking
returns-clause-marking c = mark_next c.args.graph.now c.args.target c.args.marks.now c.args.need c.requires.marking c.requires.next

pub returns-clause-fewer : goal.returns-clause-fewer
returns-clause-fewer c =
    let within : c.args.need < length c.args.marks.now = omega (arith, c.requires.graph c.requires.next.needer c.args.need c.requires.next.needed, c.requires.marking.one_each) in
    fewer_unmarked c.args.marks.now c.args.need within c.requires.next.new
