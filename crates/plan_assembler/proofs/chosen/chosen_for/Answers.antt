use Rattle.plan_assembler.proofs.Marks.{all_marked}
use Rattle.plan_assembler.proofs.chosen.chosen_for.Goals as goal

pub returns : goal.returns
returns c =
    rw c.new.ensures (all_marked c.args.graph.now c.args.target c.loop-need.marks.items c.loop-need.invariant
    (rw c.as_slice.ensures.value at c.in_default.ensures))
