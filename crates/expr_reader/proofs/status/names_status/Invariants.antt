-- No piece so far names a status function.
use Rattle.std.proofs.Common.{◌≡◌, drop, map}
use Rattle.expr_reader.specs.Template.{names_status}
use Rattle.expr_reader.specs.TemplateView.{piece_of}
use Rattle.expr_reader.proofs.status.names_status.Given as goal

abbrev pub invariant-loop-piece : goal.invariant-loop-piece
invariant-loop-piece l = names_status (map piece_of (drop l.piece-index l.pieces)) ≡ names_status (map piece_of l.pieces)
