-- How a template is read: piece by piece. The places of faults are counted back from the end's place.
use Rattle.std.specs.Prelude.{ℕ, zero, suc, ◌+◌, ◌-◌, Bool, true, false, nat_lt, if◌then◌else◌, Option, Some, None, Result, Ok, Err, List, [], ◌∷◌, ◌++◌, length, take, drop}
use Rattle.expr_reader.specs.Expr.{Expr}
use Rattle.expr_reader.specs.Reading.{Failure, read_text}
use Rattle.expr_reader.specs.Sizes.{longest_template}
use Rattle.expr_reader.specs.Template.{Piece, plain, marked, begins_mark, has_marker, end_place}
use Rattle.expr_reader.specs.declared.fault.Fault.TheVariants.{TooLong, UnclosedTemplate}

-- How many bytes stand before the first ${{, or before the end.
abbrev pub mark_place : List ℕ → ℕ
mark_place [] = 0
mark_place (b ∷ bs) = if begins_mark (b ∷ bs) then 0 else suc (mark_place bs)

abbrev pub inside_piece : List ℕ → Result Expr Failure → Result (Piece × List ℕ) Failure
inside_piece rest (Ok e) = Ok (marked e, rest)
inside_piece rest (Err x) = Err x

-- A marked expression, from after its ${{ on, with the place of its end.
abbrev pub marked_at : ℕ → List ℕ → Option ℕ → Result (Piece × List ℕ) Failure
marked_at size bs None = Err (UnclosedTemplate, size - (length bs + 3))
marked_at size bs (Some n) =
    inside_piece (drop (n + 2) bs) (read_text (size - length bs) (take n bs))

-- The first piece and what follows it.
abbrev pub piece_at : ℕ → List ℕ → Result (Piece × List ℕ) Failure
piece_at size bs =
    if begins_mark bs then marked_at size (drop 3 bs) (end_place false (drop 3 bs))
    else Ok (plain (take (mark_place bs) bs), drop (mark_place bs) bs)

-- Pieces with others before them.
abbrev pub with_pieces : List Piece → Result (List Piece) Failure → Result (List Piece) Failure
with_pieces front (Ok ps) = Ok (front ++ ps)
with_pieces front (Err x) = Err x

abbrev pub after_piece :
    (List ℕ → Result (List Piece) Failure) → Result (Piece × List ℕ) Failure → Result (List Piece) Failure
after_piece go (Ok x) = with_pieces (x.0 ∷ []) (go x.1)
after_piece go (Err x) = Err x

-- The pieces of a text, fewer than n.
abbrev pub pieces_of : ℕ → ℕ → List ℕ → Result (List Piece) Failure
pieces_of zero size bs = Err (TooLong, size)
pieces_of (suc n) size [] = Ok []
pieces_of (suc n) size (b ∷ bs) = after_piece (pieces_of n size) (piece_at size (b ∷ bs))

-- The pieces of a whole text that ends at a place.
abbrev pub read_pieces : ℕ → List ℕ → Result (List Piece) Failure
read_pieces size text = pieces_of (suc (length text)) size text

abbrev pub one_piece : Result Expr Failure → Result (List Piece) Failure
one_piece (Ok e) = Ok (marked e ∷ [])
one_piece (Err x) = Err x

-- A condition without white space at its ends that begins at a place: a template, or one expression.
abbrev pub trimmed_by : Bool → ℕ → List ℕ → Result (List Piece) Failure
trimmed_by true base text =
    if nat_lt longest_template (length text) then Err (TooLong, base + longest_template)
    else read_pieces (base + length text) text
trimmed_by false base text = one_piece (read_text base text)

abbrev pub read_trimmed : ℕ → List ℕ → Result (List Piece) Failure
read_trimmed base text = trimmed_by (has_marker text) base text
