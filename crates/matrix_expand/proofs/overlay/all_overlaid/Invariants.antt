use Rattle.std.proofs.Common.{◌≡◌, map, take}
use Rattle.matrix_expand.specs.Combos.{overlaid}
use Rattle.matrix_expand.proofs.overlay.all_overlaid.Given as goal

abbrev pub invariant-loop-original : goal.invariant-loop-original
invariant-loop-original l = l.combos ≡ map (λ o. overlaid l.entries o o) (take l.original-index l.from)
