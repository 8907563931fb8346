use Rattle.std.proofs.Common.{length, false, arith, ap, ◌∙◌}
use Rattle.std.proofs.lemmas.List.{length-replicate}
use Rattle.plan_assembler.proofs.Marks.{mark_first}
use Rattle.plan_assembler.proofs.chosen.mark_first.Goals as goal

pub bounds-marks-target : goal.bounds-marks-target
bounds-marks-target c = omega (arith, c.requires.within, ap length c.requires.none ∙ length-replicate (length c.args.graph.now) false)

pub returns : goal.returns
returns c = mark_first c.args.graph.now c.args.target c.args.marks.now c.requires.within c.requires.none
