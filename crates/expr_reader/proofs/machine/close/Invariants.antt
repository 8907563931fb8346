-- What is left to close gives what the whole stack gives.
use Rattle.std.proofs.Common.{◌≡◌, length}
use Rattle.expr_reader.specs.Machine.{limits, close}
use Rattle.expr_reader.specs.Stack.{tree_of, parts}
use Rattle.expr_reader.proofs.machine.close.Given as goal

abbrev pub invariant-loop-frame : goal.invariant-loop-frame
invariant-loop-frame l = close limits l.least (tree_of l.operand) (parts l.frames) ≡ close limits l.least (tree_of l.fn.operand) (parts l.fn.frames)

abbrev pub decreases-loop-frame : goal.decreases-loop-frame
decreases-loop-frame l = length (parts l.frames)
