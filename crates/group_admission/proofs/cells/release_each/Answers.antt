use Rattle.std.proofs.Common.{sym, arith}
use Rattle.std.proofs.lemmas.List.Edits.{map_over_more}
use Rattle.group_admission.specs.Cells.{changed}
use Rattle.group_admission.specs.Content.{released}
use Rattle.group_admission.proofs.cells.release_each.Goals as goal

pub loop-cell-preserved : goal.loop-cell-preserved
loop-cell-preserved c =
    let more =
    map_over_more (changed (released c.args.member)) c.args.cells.now c.loop-cell.cell-items c.loop-cell.cell-index c.cell-item.result
    (omega arith) c.loop-cell.invariant c.cell-item.is in
    rw (c.released_at-cell.ensures, sym c.cell-item.is) more
