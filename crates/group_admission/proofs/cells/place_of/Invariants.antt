-- The place stands between two, which meet.
use Rattle.std.proofs.Common.{◌≤◌, ◌-◌, length}
use Rattle.expr_reader.specs.Fold.{fold}
use Rattle.group_admission.specs.Cells.{Ascend, count_below}
use Rattle.group_admission.proofs.cells.place_of.Given as goal

abbrev pub invariant-loop-low : goal.invariant-loop-low
invariant-loop-low l =
    (l.low ≤ count_below (fold l.name) l.cells) × (count_below (fold l.name) l.cells ≤ l.high) × (l.high ≤ length l.cells) × Ascend l.cells

abbrev pub decreases-loop-low : goal.decreases-loop-low
decreases-loop-low l = l.high - l.low
