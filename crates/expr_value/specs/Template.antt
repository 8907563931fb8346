-- The value of a template.
use Rattle.std.specs.Prelude.{ℕ, Result, Ok, Err, List, [], ◌∷◌, ◌++◌}
use Rattle.expr_reader.specs.Template.{Piece, plain, marked}
use Rattle.expr_value.specs.Context.{Contexts}
use Rattle.expr_value.specs.Evaluate.{Answer, value, evaluated}
use Rattle.expr_value.specs.Functions.{text_of_value}
use Rattle.expr_value.specs.Limit.{limited}
use Rattle.expr_value.specs.declared.status.Status.{Status}
use Rattle.flow_model.specs.declared.reply.ValueFault.{ValueFault}

-- The text of a value, or the fault.
abbrev pub text_answer : Answer → Result (List ℕ) ValueFault
text_answer (Ok v) = Ok (text_of_value v)
text_answer (Err fault) = Err fault

-- The text of a piece.
abbrev pub piece_text : Contexts → Status → Piece → Result (List ℕ) ValueFault
piece_text c s (plain bytes) = Ok bytes
piece_text c s (marked e) = text_answer (value c s e)

-- A text before the others, or the first fault.
abbrev pub with_text : Result (List ℕ) ValueFault → Result (List ℕ) ValueFault → Result (List ℕ) ValueFault
with_text (Ok front) (Ok bytes) = Ok (front ++ bytes)
with_text (Ok front) (Err fault) = Err fault
with_text (Err fault) rest = Err fault

-- The join of the pieces' texts, or the first fault.
abbrev pub pieces_text : Contexts → Status → List Piece → Result (List ℕ) ValueFault
pieces_text c s [] = Ok []
pieces_text c s (p ∷ ps) = with_text (piece_text c s p) (pieces_text c s ps)

-- The text as a value, or the fault.
abbrev pub limited_text : Result (List ℕ) ValueFault → Answer
limited_text (Ok bytes) = limited bytes
limited_text (Err fault) = Err fault

-- A template of exactly one expression and nothing else has that expression's value; any other is the join of
-- its pieces' texts.
abbrev pub template_value : Contexts → Status → List Piece → Answer
template_value c s [] = limited_text (pieces_text c s [])
template_value c s (plain bytes ∷ ps) = limited_text (pieces_text c s (plain bytes ∷ ps))
template_value c s (marked e ∷ []) = evaluated c s e
template_value c s (marked e ∷ p ∷ ps) = limited_text (pieces_text c s (marked e ∷ p ∷ ps))
