-- One piece more leaves a shorter rest.
use Rattle.std.proofs.Common.{◌≡◌, ◌≢◌, ℕ, nat_eq, true, List, [], length, ap, rules}
use Rattle.expr_reader.specs.Template.{Piece}
use Rattle.expr_reader.specs.TemplateView.{piece_of, pieces_of_vec}
use Rattle.expr_reader.proofs.PieceLoop.{piece_less, gather_more}
use Rattle.expr_reader.proofs.pieces.read_pieces.Goals as goal

pub pieces-smaller : goal.pieces-smaller
pieces-smaller c =
    let rest = c.pieces.rest.now in
    let x : Piece × List ℕ = (piece_of c.in_ok-piece.piece, c.in_ok-piece.after.now) in
    let some : rest ≢ [] = λ e. let empty : nat_eq (length rest) 0 ≡ true = ap (λ (z : List ℕ). nat_eq (length z) 0) e in cc c.pieces-test.ensures in
    piece_less c.args.size rest x c.pieces.invariant.0.short some c.in_ok-piece.ensures

pub pieces-preserved : goal.pieces-preserved
pieces-preserved c =
    let rest = c.pieces.rest.now in
    let x : Piece × List ℕ = (piece_of c.in_ok-piece.piece, c.in_ok-piece.after.now) in
    let some : rest ≢ [] = λ e. let empty : nat_eq (length rest) 0 ≡ true = ap (λ (z : List ℕ). nat_eq (length z) 0) e in cc c.pieces-test.ensures in
    (gather_more c.args.size c.args.text.now rest (pieces_of_vec c.pieces.pieces) x (pieces_of_vec c.push.new.pieces) c.pieces.invariant.0 some c.in_ok-piece.ensures c.in_ok-push.ensures.ok, search rules)
