-- Templates, there and back.
use Rattle.std.proofs.Common.{◌≡◌, ℕ, zero, suc, ◌+◌, ◌-◌, ◌<◌, ◌≤◌, false, Result, Ok, Err, Option, Some, None, List, [], ◌∷◌, ◌++◌, length, take, drop, refl, sym, ap, subst, ◌∙◌, length-append, arith}
use Rattle.std.proofs.Math.Seq.{take-append_seam, drop-append_seam, drop-append-add}
use Rattle.std.proofs.lemmas.Bool.{cond-false}
use Rattle.std.proofs.lemmas.List.{take-append-drop, length-take, length-drop}
use Rattle.std.specs.Prelude.{codes}
use Rattle.expr_reader.specs.Expr.{Expr}
use Rattle.expr_reader.specs.Reading.{Failure, read_text}
use Rattle.expr_reader.specs.Spells.{Spells}
use Rattle.expr_reader.specs.Template.{Piece, plain, marked, begins_mark, has_marker, end_place, EndsPlain, IsPlain, Pieces}
use Rattle.expr_reader.specs.TemplateReading.{mark_place, inside_piece, marked_at, piece_at, with_pieces, after_piece, pieces_of}
use Rattle.expr_reader.specs.TemplateStands.{StandsInMark, unclosed, within, StandsInPieces}
use Rattle.expr_reader.proofs.Expressions.{spelled_read, read_spells, read_stands}
use Rattle.expr_reader.proofs.MarkPlaces.{mark_front, no_mark_over, or_left, plain_place, Parts, parts, EndsThere, end_there}
use Rattle.expr_reader.proofs.Runs.{if_holds}

-- A piece that a text begins with is read.
plain_again : (size b : ℕ) (p rest : List ℕ) → IsPlain (b ∷ p) rest → piece_at size ((b ∷ p) ++ rest) ≡ Ok (plain (b ∷ p), rest)
plain_again size b p rest h =
    let bs : List ℕ = (b ∷ p) ++ rest in
    let place = plain_place (b ∷ p) rest h.unmarked h.ends in
    cond-false (begins_mark bs) (marked_at size (drop 3 bs) (end_place false (drop 3 bs))) (Ok (plain (take (mark_place bs) bs), drop (mark_place bs) bs)) (no_mark_over b p rest (or_left (begins_mark (b ∷ p)) (has_marker p) h.unmarked) h.ends)
    ∙ ap (λ (n : ℕ). Ok (plain (take n bs), drop n bs)) place
    ∙ ap (λ (z : List ℕ). Ok (plain z, drop (length (b ∷ p)) bs)) (take-append_seam (b ∷ p) rest)
    ∙ ap (λ (z : List ℕ). Ok (plain (b ∷ p), z)) (drop-append_seam (b ∷ p) rest)

inside_again : (size : ℕ) (e : Expr) (inside rest : List ℕ) → end_place false (inside ++ (codes "}}" ++ rest)) ≡ Some (length inside) → Spells e inside → piece_at size (codes "${{" ++ (inside ++ (codes "}}" ++ rest))) ≡ Ok (marked e, rest)
inside_again size e inside rest first spelled =
    let bs : List ℕ = inside ++ (codes "}}" ++ rest) in
    ap (marked_at size bs) first
    ∙ ap (λ (z : List ℕ). inside_piece (drop (length inside + 2) bs) (read_text (size - length bs) z)) (take-append_seam inside (codes "}}" ++ rest))
    ∙ ap (inside_piece (drop (length inside + 2) bs)) (spelled_read (size - length bs) e inside spelled)
    ∙ ap (λ (z : List ℕ). Ok (marked e, z)) (drop-append-add inside (codes "}}" ++ rest) 2)

-- What is spelled so is read.
pub pieces_again : (n size : ℕ) (text : List ℕ) (ps : List Piece) → length text < n → Pieces text ps [] → pieces_of n size text ≡ Ok ps
pieces_again zero size text ps fuel h = absurd (omega arith)
pieces_again (suc n) size text [] fuel h = ap (pieces_of (suc n) size) h
pieces_again (suc n) size text (plain [] ∷ ps) fuel h = absurd (h.1.some refl)
pieces_again (suc n) size text (plain (b ∷ p) ∷ ps) fuel h =
    ap (pieces_of (suc n) size) h.2
    ∙ ap (after_piece (pieces_of n size)) (plain_again size b p h.0 h.1)
    ∙ ap (with_pieces (plain (b ∷ p) ∷ [])) (pieces_again n size h.0 ps (omega (arith, fuel, ap length h.2, length-append (b ∷ p) h.0)) h.3)
pieces_again (suc n) size text (marked e ∷ ps) fuel h =
    ap (pieces_of (suc n) size) h.1.same
    ∙ ap (after_piece (pieces_of n size)) (inside_again size e h.1.inside h.0 h.1.first h.1.spelled)
    ∙ ap (with_pieces (marked e ∷ [])) (pieces_again n size h.0 ps (omega (arith, fuel, ap length h.1.same, length-append h.1.inside (codes "}}" ++ h.0))) h.2)

-- What a piece that is read is: one that the text begins with.
abbrev PieceComes : ℕ → List ℕ → Result (Piece × List ℕ) Failure → Type 0
PieceComes size text (Ok x) = ((ps : List Piece) (rest : List ℕ) → Pieces x.1 ps rest → Pieces text (x.0 ∷ ps) rest) × (length x.1 < length text)
PieceComes size text (Err y) = StandsInMark size text y

plain_comes : (b : ℕ) (bs : List ℕ) (n : ℕ) → mark_place (b ∷ bs) ≡ suc n → Parts (b ∷ bs) → ((ps : List Piece) (rest : List ℕ) → Pieces (drop (suc n) (b ∷ bs)) ps rest → Pieces (b ∷ bs) (plain (take (suc n) (b ∷ bs)) ∷ ps) rest) × (length (drop (suc n) (b ∷ bs)) < length (b ∷ bs))
plain_comes b bs n place h = (
  λ ps rest more. (
    drop (suc n) (b ∷ bs),
    record {
      some = λ none. cc;
      unmarked = subst (λ (k : ℕ). has_marker (take k (b ∷ bs)) ≡ false) place h.unmarked;
      ends = subst (λ (k : ℕ). EndsPlain (drop k (b ∷ bs))) place h.ends;
    },
    sym (take-append-drop (suc n) (b ∷ bs)),
    more,
  ),
  omega (arith, length-drop n bs),
)

inside_size : (n : ℕ) (bs : List ℕ) → bs ≡ take n bs ++ (codes "}}" ++ drop (n + 2) bs) → length (take n bs) ≡ n
inside_size n bs h = omega (arith, ap length h, length-append (take n bs) (codes "}}" ++ drop (n + 2) bs), length-take n bs)

inside_comes : (size : ℕ) (text bs : List ℕ) (n : ℕ) → length text ≤ size → text ≡ codes "${{" ++ bs → end_place false bs ≡ Some n → bs ≡ take n bs ++ (codes "}}" ++ drop (n + 2) bs) → (r : Result Expr Failure) → read_text (size - length bs) (take n bs) ≡ r → PieceComes size text (inside_piece (drop (n + 2) bs) r)
inside_comes size text bs n short same first whole (Ok e) at =
    let closed : end_place false (take n bs ++ (codes "}}" ++ drop (n + 2) bs)) ≡ Some (length (take n bs)) = ap (end_place false) (sym whole) ∙ first ∙ ap Some (sym (inside_size n bs whole)) in (
      λ ps rest more. (
        drop (n + 2) bs,
        record { inside = take n bs; same = same ∙ ap (λ (z : List ℕ). codes "${{" ++ z) whole; first = closed; spelled = read_spells (size - length bs) (take n bs) e at },
        more,
      ),
      omega (arith, ap length same, length-drop (n + 2) bs),
    )
inside_comes size text bs n short same first whole (Err y) at =
    let closed : end_place false (take n bs ++ (codes "}}" ++ drop (n + 2) bs)) ≡ Some (length (take n bs)) = ap (end_place false) (sym whole) ∙ first ∙ ap Some (sym (inside_size n bs whole)) in
    let stands = read_stands (size - length bs) (take n bs) y at in
    within (take n bs) (drop (n + 2) bs) (same ∙ ap (λ (z : List ℕ). codes "${{" ++ z) whole) closed (size - length bs) stands.0 (omega (arith, short, ap length same, ap length (sym whole))) stands.1 stands.2

marked_comes : (size : ℕ) (text bs : List ℕ) → length text ≤ size → text ≡ codes "${{" ++ bs → (o : Option ℕ) → end_place false bs ≡ o → EndsThere bs o → PieceComes size text (marked_at size bs o)
marked_comes size text bs short same None first there = unclosed bs same first refl (omega (arith, short, ap length same))
marked_comes size text bs short same (Some n) first there = inside_comes size text bs n short same first there (read_text (size - length bs) (take n bs)) refl

piece_comes : (size b : ℕ) (bs : List ℕ) → length (b ∷ bs) ≤ size → PieceComes size (b ∷ bs) (piece_at size (b ∷ bs))
piece_comes size b bs short =
    if_holds (PieceComes size (b ∷ bs)) (begins_mark (b ∷ bs)) (marked_at size (drop 3 (b ∷ bs)) (end_place false (drop 3 (b ∷ bs)))) (Ok (plain (take (mark_place (b ∷ bs)) (b ∷ bs)), drop (mark_place (b ∷ bs)) (b ∷ bs)))
    (λ test. marked_comes size (b ∷ bs) (drop 3 (b ∷ bs)) short (mark_front (b ∷ bs) test) (end_place false (drop 3 (b ∷ bs))) refl (end_there false (drop 3 (b ∷ bs))))
    (λ test. let place = cond-false (begins_mark (b ∷ bs)) 0 (suc (mark_place bs)) test in
    subst (λ (k : ℕ). PieceComes size (b ∷ bs) (Ok (plain (take k (b ∷ bs)), drop k (b ∷ bs)))) (sym place) (plain_comes b bs (mark_place bs) place (parts (b ∷ bs))))

-- What reading pieces gives: the text's pieces, or a fault that stands in it.
abbrev pub Got : ℕ → List ℕ → Result (List Piece) Failure → Type 0
Got size text (Ok ps) = Pieces text ps []
Got size text (Err x) = StandsInPieces size text x

got_more : (size : ℕ) (text : List ℕ) (p : Piece) (after : List ℕ) → ((ps : List Piece) (rest : List ℕ) → Pieces after ps rest → Pieces text (p ∷ ps) rest) → (r : Result (List Piece) Failure) → Got size after r → Got size text (with_pieces (p ∷ []) r)
got_more size text p after lead (Ok ps) h = lead ps [] h
got_more size text p after lead (Err x) h = record { before = p ∷ h.before; rest = h.rest; leads = lead h.before h.rest h.leads; stands = h.stands }

abbrev PiecesSound : ℕ → ℕ → Type 0
PiecesSound n size = (text : List ℕ) → length text < n → length text ≤ size → Got size text (pieces_of n size text)

got_piece : (n size : ℕ) → PiecesSound n size → (text : List ℕ) → length text < suc n → length text ≤ size → (r : Result (Piece × List ℕ) Failure) → PieceComes size text r → Got size text (after_piece (pieces_of n size) r)
got_piece n size sound text fuel short (Ok x) comes = got_more size text x.0 x.1 comes.0 (pieces_of n size x.1) (sound x.1 (omega (arith, comes.1)) (omega (arith, comes.1)))
got_piece n size sound text fuel short (Err y) comes = record { before = []; rest = text; leads = refl; stands = comes }

-- What is read is spelled so.
pub pieces_sound : (n size : ℕ) → PiecesSound n size
pieces_sound zero size text fuel short = absurd (omega arith)
pieces_sound (suc n) size [] fuel short = refl
pieces_sound (suc n) size (b ∷ bs) fuel short = got_piece n size (pieces_sound n size) (b ∷ bs) fuel short (piece_at size (b ∷ bs)) (piece_comes size b bs short)

-- A piece leaves a shorter text.
pub piece_shorter : (size b : ℕ) (bs : List ℕ) (x : Piece × List ℕ) → length (b ∷ bs) ≤ size → piece_at size (b ∷ bs) ≡ Ok x → length x.1 < length (b ∷ bs)
piece_shorter size b bs x short h = (subst (PieceComes size (b ∷ bs)) h (piece_comes size b bs short)).1

-- How many pieces are allowed does not matter where they are enough.
abbrev SamePieces : ℕ → ℕ → Type 0
SamePieces n size = (m : ℕ) (text : List ℕ) → length text < n → length text < m → length text ≤ size → pieces_of n size text ≡ pieces_of m size text

same_after : (n m size : ℕ) → SamePieces n size → (text : List ℕ) → length text < suc n → length text < suc m → length text ≤ size → (r : Result (Piece × List ℕ) Failure) → PieceComes size text r → after_piece (pieces_of n size) r ≡ after_piece (pieces_of m size) r
same_after n m size same text low high short (Ok x) comes = ap (with_pieces (x.0 ∷ [])) (same m x.1 (omega (arith, comes.1)) (omega (arith, comes.1)) (omega (arith, comes.1)))
same_after n m size same text low high short (Err y) comes = refl

pub same_pieces : (n size : ℕ) → SamePieces n size
same_pieces zero size m text low high short = absurd (omega arith)
same_pieces (suc n) size zero text low high short = absurd (omega arith)
same_pieces (suc n) size (suc m) [] low high short = refl
same_pieces (suc n) size (suc m) (b ∷ bs) low high short = same_after n m size (same_pieces n size) (b ∷ bs) low high short (piece_at size (b ∷ bs)) (piece_comes size b bs short)
