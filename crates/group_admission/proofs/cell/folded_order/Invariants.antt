-- What is left of both texts stands as the whole.
use Rattle.std.proofs.Common.{◌≡◌, drop, nat_cmp}
use Rattle.std.specs.Cmp.Lexicographic.{slice_cmp}
use Rattle.expr_reader.specs.Fold.{fold}
use Rattle.group_admission.proofs.cell.folded_order.Given as goal

abbrev pub invariant-loop-byte : goal.invariant-loop-byte
invariant-loop-byte l = slice_cmp nat_cmp (fold (drop l.byte-index l.bytes)) l.rest ≡ slice_cmp nat_cmp (fold l.name) l.folded
