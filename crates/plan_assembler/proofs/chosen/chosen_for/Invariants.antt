use Rattle.plan_assembler.specs.Chosen.{Marking, count_unmarked}
use Rattle.plan_assembler.proofs.chosen.chosen_for.Given as goal

abbrev pub invariant-loop-need : goal.invariant-loop-need
invariant-loop-need l = Marking l.graph l.target l.marks.items

abbrev pub decreases-loop-need : goal.decreases-loop-need
decreases-loop-need l = count_unmarked l.marks.items
