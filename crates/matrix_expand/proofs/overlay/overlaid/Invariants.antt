use Rattle.std.proofs.Common.{◌≡◌, drop}
use Rattle.matrix_expand.specs.Combos.{overlaid}
use Rattle.matrix_expand.proofs.overlay.overlaid.Given as goal

abbrev pub invariant-loop-entry : goal.invariant-loop-entry
invariant-loop-entry l = overlaid (drop l.entry-index l.from) l.original l.combo ≡ overlaid l.from l.original l.original
