use Rattle.std.proofs.Common.{◌≡◌, Some, [], map, drop}
use Rattle.expr_reader.specs.TemplateView.{piece_of}
use Rattle.expr_value.proofs.JoinedTexts.{joined_onto}
use Rattle.expr_value.specs.Template.{pieces_text}
use Rattle.expr_value.proofs.template.joined.Given as goal

-- what has grown, with the pieces that are left, is the join of all
abbrev pub invariant-loop-piece : goal.invariant-loop-piece
invariant-loop-piece g l =
    let contexts = g.C.Context.contexts l.contexts in
    joined_onto l.text (pieces_text contexts l.status (map piece_of (drop l.piece-index l.pieces))) ≡ joined_onto (Some []) (pieces_text contexts l.status (map piece_of l.pieces))
