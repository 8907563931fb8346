-- Reading a text piece by piece.
use Rattle.std.proofs.Common.{◌≡◌, ◌≢◌, ℕ, suc, ◌+◌, ◌-◌, ◌<◌, ◌≤◌, Result, Ok, Err, List, [], ◌∷◌, ◌++◌, length, map, refl, sym, ap, ◌∙◌, append_assoc, arith}
use Rattle.expr_reader.specs.Reading.{Failure}
use Rattle.expr_reader.specs.Template.{Piece}
use Rattle.expr_reader.specs.TemplateReading.{piece_at, with_pieces, after_piece, pieces_of, read_pieces}
use Rattle.expr_reader.specs.TemplateView.{piece_of}
use Rattle.expr_reader.specs.declared.template.Piece as piece
use Rattle.expr_reader.proofs.PieceLaws.{piece_shorter, same_pieces}

-- The pieces so far and those of the rest are the whole text's.
pub record IsGathering (size : ℕ) (text rest : List ℕ) (done : List Piece) : Type 0 where
  pub short : length rest ≤ size
  pub same : with_pieces done (read_pieces size rest) ≡ read_pieces size text

no_front : (r : Result (List Piece) Failure) → with_pieces [] r ≡ r
no_front (Ok ps) = refl
no_front (Err x) = refl

pub gather : (size : ℕ) (text : List ℕ) (done : List Piece) → length text ≤ size → done ≡ [] → IsGathering size text text done
gather size text done short h = record { short = short; same = ap (λ (ps : List Piece). with_pieces ps (read_pieces size text)) h ∙ no_front (read_pieces size text) }

fronts : (a : List Piece) (p : Piece) (r : Result (List Piece) Failure) → with_pieces (a ++ p ∷ []) r ≡ with_pieces a (with_pieces (p ∷ []) r)
fronts a p (Ok ps) = ap Ok (append_assoc a (p ∷ []) ps)
fronts a p (Err x) = refl

pub piece_less : (size : ℕ) (rest : List ℕ) (x : Piece × List ℕ) → length rest ≤ size → rest ≢ [] → piece_at size rest ≡ Ok x → length x.1 < length rest
piece_less size [] x short some h = absurd (some refl)
piece_less size (b ∷ bs) x short some h = piece_shorter size b bs x short h

next_gathered : (size b : ℕ) (bs : List ℕ) (x : Piece × List ℕ) → length (b ∷ bs) ≤ size → piece_at size (b ∷ bs) ≡ Ok x → read_pieces size (b ∷ bs) ≡ with_pieces (x.0 ∷ []) (read_pieces size x.1)
next_gathered size b bs x short h =
    let less = piece_shorter size b bs x short h in
    ap (after_piece (pieces_of (length (b ∷ bs)) size)) h
    ∙ ap (with_pieces (x.0 ∷ [])) (same_pieces (length (b ∷ bs)) size (suc (length x.1)) x.1 less (omega arith) (omega (arith, less, short)))

pub gather_more : (size : ℕ) (text rest : List ℕ) (done : List Piece) (x : Piece × List ℕ) (now : List Piece) → IsGathering size text rest done → rest ≢ [] → piece_at size rest ≡ Ok x → now ≡ done ++ x.0 ∷ [] → IsGathering size text x.1 now
gather_more size text [] done x now h some read last = absurd (some refl)
gather_more size text (b ∷ bs) done x now h some read last = record {
  short = omega (arith, piece_shorter size b bs x h.short read, h.short);
  same = ap (λ (ps : List Piece). with_pieces ps (read_pieces size x.1)) last ∙ fronts done x.0 (read_pieces size x.1) ∙ ap (with_pieces done) (sym (next_gathered size b bs x h.short read)) ∙ h.same;
}

pub pieces_push : (ps : List piece.Piece) (p : piece.Piece) → map piece_of (ps ++ p ∷ []) ≡ map piece_of ps ++ piece_of p ∷ []
pieces_push [] p = refl
pieces_push (q ∷ ps) p = ap (λ (z : List Piece). piece_of q ∷ z) (pieces_push ps p)
