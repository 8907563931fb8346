use Rattle.std.proofs.Common.{◌≡◌, drop}
use Rattle.std.specs.List.{list_all}
use Rattle.matrix_expand.specs.Combos.{contradicts}
use Rattle.matrix_expand.proofs.overlay.contradicts_all.Given as goal

abbrev pub invariant-loop-original : goal.invariant-loop-original
invariant-loop-original l =
    list_all (λ o. contradicts o l.entry) (drop l.original-index l.from) ≡ list_all (λ o. contradicts o l.entry) l.from
