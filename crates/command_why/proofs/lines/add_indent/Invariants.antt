use Rattle.std.proofs.Common.{◌≡◌, ◌++◌}
use Rattle.command_why.specs.Words.{indent}
use Rattle.command_why.proofs.lines.add_indent.Given as goal

abbrev pub invariant-loop-left : goal.invariant-loop-left
invariant-loop-left l = l.out.items ++ indent l.left ≡ l.initial.out.items ++ indent l.depth

abbrev pub decreases-loop-left : goal.decreases-loop-left
decreases-loop-left l = l.left
