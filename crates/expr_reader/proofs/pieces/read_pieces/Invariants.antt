-- The pieces so far and those of the rest are the whole text's.
use Rattle.std.proofs.Common.{length}
use denote.Shadow.{shadow}
use denote.Text.{Utf8}
use Rattle.expr_reader.specs.TemplateView.{pieces_of_vec}
use Rattle.expr_reader.proofs.PieceLoop.{IsGathering}
use Rattle.expr_reader.proofs.pieces.read_pieces.Given as goal

abbrev pub invariant-pieces : goal.invariant-pieces
invariant-pieces l = IsGathering l.size l.text l.rest (pieces_of_vec l.pieces) × shadow (Utf8 l.rest)

abbrev pub decreases-pieces : goal.decreases-pieces
decreases-pieces l = length l.rest
