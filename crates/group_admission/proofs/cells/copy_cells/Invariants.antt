-- The cells so far are copied.
use Rattle.std.proofs.Common.{◌≡◌, take}
use Rattle.group_admission.proofs.cells.copy_cells.Given as goal

abbrev pub invariant-loop-cell : goal.invariant-loop-cell
invariant-loop-cell l = l.twins.items ≡ take l.cell-index l.cells
