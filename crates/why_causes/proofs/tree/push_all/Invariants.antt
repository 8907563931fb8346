use Rattle.std.proofs.Common.{◌≡◌, ◌≤◌, ◌++◌, drop, length, reverse}
use Rattle.why_causes.specs.Tree.{at_depth}
use Rattle.why_causes.proofs.tree.push_all.Given as goal

abbrev pub invariant-loop-left : goal.invariant-loop-left
invariant-loop-left l = record {
  pushed : reverse l.stack.items ≡ at_depth l.depth (drop l.left l.questions) ++ reverse l.initial.stack.items;
  within : l.left ≤ length l.questions;
}

abbrev pub decreases-loop-left : goal.decreases-loop-left
decreases-loop-left l = l.left
