use Rattle.std.proofs.Common.{◌≡◌, drop, map}
use Rattle.expr_reader.specs.TemplateView.{piece_of}
use Rattle.expr_value.specs.Named.{pieces_name_context}
use Rattle.expr_value.proofs.named.template_names_context.Given as goal

abbrev pub invariant-loop-piece : goal.invariant-loop-piece
invariant-loop-piece l = pieces_name_context l.context (map piece_of (drop l.piece-index l.pieces)) ≡ pieces_name_context l.context (map piece_of l.pieces)
