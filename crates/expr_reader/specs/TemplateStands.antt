-- When a fault stands at a place of a template or a condition.
use Rattle.std.specs.Prelude.{◌≡◌, ℕ, ◌+◌, ◌<◌, false, true, Some, None, Result, Ok, Err, IfSome, List, [], ◌++◌, length, codes}
use Rattle.std.specs.List.{prefix_len}
use Rattle.expr_reader.specs.Bytes.{is_white}
use Rattle.expr_reader.specs.Faults.{fault_at, OnlyMemory, StandsIn}
use Rattle.expr_reader.specs.Reading.{Failure}
use Rattle.expr_reader.specs.Sizes.{longest_template}
use Rattle.expr_reader.specs.Template.{Piece, has_marker, end_place, Pieces, names_status, trimmed}
use Rattle.expr_reader.specs.TemplateView.{template_of}
use Rattle.expr_reader.specs.declared.fault.ExprFault.{ExprFault}
use Rattle.expr_reader.specs.declared.template.Template.{Template}
use Rattle.expr_reader.specs.declared.fault.Fault.TheVariants.{TooLong, UnclosedTemplate, StatusHere}

-- The fault stands in the mark that a text begins with, where the text's end has this place: no }} closes
-- the mark, or the fault stands in the expression.
pub data StandsInMark (size : ℕ) (text : List ℕ) (x : Failure) : Type 0 where
  unclosed :
      (after : List ℕ) → text ≡ codes "${{" ++ after → end_place false after ≡ None
      → x.0 ≡ UnclosedTemplate → x.1 + length text ≡ size → StandsInMark size text x
  within :
      (inside after : List ℕ) → text ≡ codes "${{" ++ (inside ++ (codes "}}" ++ after))
      → end_place false (inside ++ (codes "}}" ++ after)) ≡ Some (length inside)
      → (base k : ℕ) → base + length (inside ++ (codes "}}" ++ after)) ≡ size
      → StandsIn inside (x.0, k) → x.1 ≡ base + k → StandsInMark size text x

-- The fault stands in a mark after some pieces.
pub record StandsInPieces (size : ℕ) (text : List ℕ) (x : Failure) : Type 0 where
  pub before : List Piece
  pub rest : List ℕ
  pub leads : Pieces text before rest
  pub stands : StandsInMark size rest x

-- The fault stands in a template's text: it is too long, or a mark has the fault, or an expression names a
-- status function.
pub data StandsInTemplate (text : List ℕ) (x : Failure) : Type 0 where
  too_long :
      longest_template < length text → x ≡ (TooLong, longest_template) → StandsInTemplate text x
  in_pieces : StandsInPieces (length text) text x → StandsInTemplate text x
  status :
      (ps : List Piece) → Pieces text ps [] → names_status ps ≡ true → x.0 ≡ StatusHere → StandsInTemplate text x

-- The fault stands in a condition's text, of which the white space at its start is so long: the rest is an
-- expression or a template that has the fault.
pub data StandsInTrimmed (base : ℕ) (text : List ℕ) (x : Failure) : Type 0 where
  in_expression :
      has_marker text ≡ false → (k : ℕ) → StandsIn text (x.0, k) → x.1 ≡ base + k → StandsInTrimmed base text x
  too_long_condition :
      has_marker text ≡ true → longest_template < length text → x ≡ (TooLong, base + longest_template) → StandsInTrimmed base text x
  in_marks :
      has_marker text ≡ true → StandsInPieces (base + length text) text x → StandsInTrimmed base text x

-- A template is read as these pieces, unless memory runs out.
abbrev pub IsReadAs : Result Template ExprFault → List Piece → Type 0
IsReadAs (Ok template) ps = template_of template ≡ ps
IsReadAs (Err fault) ps = OnlyMemory fault

-- A fault that is answered stands in the template's text.
abbrev pub TemplateFaultStands : List ℕ → ExprFault → Type 0
TemplateFaultStands text fault = IfSome (fault_at fault) (StandsInTemplate text)

-- A fault that is answered stands in the condition's text.
abbrev pub ConditionFaultStands : List ℕ → ExprFault → Type 0
ConditionFaultStands text fault =
    IfSome (fault_at fault) (StandsInTrimmed (prefix_len is_white text) (trimmed text))
