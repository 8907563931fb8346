-- The cells so far are changed, the others are as they were.
use Rattle.std.proofs.Common.{◌≡◌, ◌++◌, map, take, drop}
use Rattle.group_admission.specs.Cells.{changed}
use Rattle.group_admission.specs.Content.{withdrawn}
use Rattle.group_admission.proofs.cells.withdraw_each.Given as goal

abbrev pub invariant-loop-cell : goal.invariant-loop-cell
invariant-loop-cell l = l.cell-items ≡ map (changed (withdrawn l.member)) (take l.cell-index l.initial.cell-items) ++ drop l.cell-index l.initial.cell-items
