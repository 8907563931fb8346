use Rattle.std.proofs.Common.{◌≡◌, ◌++◌, drop}
use Rattle.std.specs.List.{filter}
use Rattle.matrix_expand.specs.Combos.{stands_alone}
use Rattle.matrix_expand.proofs.overlay.add_alone.Given as goal

-- what was added, and the entries that are left
abbrev pub invariant-loop-entry : goal.invariant-loop-entry
invariant-loop-entry l =
    l.combos ++ filter (stands_alone l.originals) (drop l.entry-index l.from) ≡ l.fn.combos ++ filter (stands_alone l.originals) l.from
