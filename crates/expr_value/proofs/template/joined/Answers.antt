use Rattle.std.proofs.Common.{rules, arith, ◌≡◌, ◌+◌, ◌∷◌, List, map, drop, ap, sym, ◌∙◌}
use Rattle.std.proofs.lemmas.Result.{err_from_is_err_and}
use Rattle.expr_reader.specs.TemplateView.{piece_of}
use Rattle.expr_reader.specs.declared.template.Piece.{Piece}
use Rattle.expr_value.proofs.JoinedTexts.{fault_stands, joined_first, joined_onto, joined_step}
use Rattle.expr_value.specs.Template.{pieces_text}
use Rattle.flow_model.proofs.Conversions.{drop-next}
use Rattle.flow_model.specs.Value.{view}
use Rattle.expr_value.proofs.template.joined.Goals as goal

pub returns-in_err-push_piece : goal.returns-in_err-push_piece
returns-in_err-push_piece g c =
    let texts = pieces_text (g.C.Context.contexts c.args.contexts.now) c.args.status in
    let all = c.args.pieces.now in
    let left = drop (c.loop-piece.piece-index + 1) all in
    let here : drop c.loop-piece.piece-index all ≡ c.piece-item.result ∷ left = drop-next all c.loop-piece.piece-index c.piece-item.result (omega arith) (search rules) in
    let whole = ap (λ (ps : List Piece). joined_onto c.loop-piece.text (texts (map piece_of ps))) (sym here) ∙ c.loop-piece.invariant ∙ joined_first (texts (map piece_of all)) in
    let p = err_from_is_err_and c.from_residual.result c.from_residual.ensures.1 in
    rw (p.1, p.2) (fault_stands (λ (done : Unit {0}). c.push_piece.new.text) view c.loop-piece.text _ (texts (map piece_of left)) (texts (map piece_of all)) c.in_err-push_piece.field-0.0 c.in_err-push_piece.ensures whole)

pub loop-piece-preserved : goal.loop-piece-preserved
loop-piece-preserved g c =
    let texts = pieces_text (g.C.Context.contexts c.args.contexts.now) c.args.status in
    let all = c.args.pieces.now in
    let left = drop (c.loop-piece.piece-index + 1) all in
    let here : drop c.loop-piece.piece-index all ≡ c.piece-item.result ∷ left = drop-next all c.loop-piece.piece-index c.piece-item.result (omega arith) (search rules) in
    joined_step c.loop-piece.text c.push_piece.new.text _ (texts (map piece_of left)) c.in_ok-push_piece.ensures
    ∙ ap (λ (ps : List Piece). joined_onto c.loop-piece.text (texts (map piece_of ps))) (sym here) ∙ c.loop-piece.invariant
