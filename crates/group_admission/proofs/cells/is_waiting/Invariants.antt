-- What is asked is told by the cells that are left.
use Rattle.std.proofs.Common.{◌≡◌, drop}
use Rattle.group_admission.specs.Cells.{held_in}
use Rattle.group_admission.specs.Content.{is_waiting}
use Rattle.group_admission.proofs.cells.is_waiting.Given as goal

abbrev pub invariant-loop-cell : goal.invariant-loop-cell
invariant-loop-cell l = is_waiting l.member (held_in (drop l.cell-index l.cells)) ≡ is_waiting l.member (held_in l.cells)
