-- The pieces that a template stands for.
use Rattle.std.specs.Prelude.{ℕ, List, map, string_bytes, Vec}
use Rattle.std.specs.Borrow.{Bor}
use Rattle.std.specs.declared.alloc.Global.{Global}
use Rattle.expr_reader.specs.Template.{Piece, plain, marked}
use Rattle.expr_reader.specs.View.{view}
use Rattle.expr_reader.specs.declared.template.Piece as piece
use Rattle.expr_reader.specs.declared.template.Piece.TheVariants as kind
use Rattle.expr_reader.specs.declared.template.Template.{Template}

-- A piece, its text as bytes.
abbrev pub piece_of : piece.Piece → Piece
piece_of (kind.Text s) = plain (string_bytes s)
piece_of (kind.Expression t) = marked (view t)

abbrev pub pieces_of_vec : Vec piece.Piece Global → List Piece
pieces_of_vec ps = map piece_of ps.items

-- A template's pieces.
abbrev pub template_of : Template → List Piece
template_of t = pieces_of_vec t.pieces

-- A piece and the text after it.
abbrev pub piece_and_rest : piece.Piece × Bor (List ℕ) → Piece × List ℕ
piece_and_rest x = (piece_of x.0, x.1.now)
