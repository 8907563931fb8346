-- What is asked is told by the cells that are left.
use Rattle.std.proofs.Common.{◌≡◌, drop}
use Rattle.group_admission.specs.Cells.{held_in}
use Rattle.group_admission.specs.Content.{next_after}
use Rattle.group_admission.proofs.cells.next_after.Given as goal

abbrev pub invariant-loop-cell : goal.invariant-loop-cell
invariant-loop-cell l = next_after l.member (held_in (drop l.cell-index l.cells)) ≡ next_after l.member (held_in l.cells)
