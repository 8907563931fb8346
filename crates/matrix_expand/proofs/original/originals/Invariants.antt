use Rattle.std.proofs.Common.{◌≡◌, ◌≤◌, ◌++◌, length, drop}
use Rattle.std.specs.List.{filter}
use Rattle.matrix_expand.specs.Combos.{is_original, originals, product}
use Rattle.matrix_expand.proofs.original.originals.Given as goal

-- the originals so far, and those among the choices that are left
abbrev pub invariant-loop-number : goal.invariant-loop-number
invariant-loop-number l = record {
  found : l.made ++ filter (is_original l.matrix.exclude) (drop l.number (product l.matrix.variables)) ≡ originals l.matrix;
  few : length l.made ≤ 256;
}
