-- What a text spells as a template or a condition, as functions.
use Rattle.std.specs.Prelude.{◌≡◌, ◌↔◌, ℕ, Bool, true, ◌&&◌, not, is_some, nat_le, if◌then◌else◌, Option, Some, None, IfSome, option_and_then, Result, Ok, Err, List, [], ◌∷◌, length}
use Rattle.expr_reader.specs.Faults.{fault_at}
use Rattle.expr_reader.specs.Reading.{Failure}
use Rattle.expr_reader.specs.Sizes.{longest_template}
use Rattle.expr_reader.specs.Template.{Piece, plain, has_marker, names_status, trimmed, SpellsTemplate, SpellsCondition}
use Rattle.expr_reader.specs.TemplateReading.{read_pieces, read_trimmed}
use Rattle.expr_reader.specs.TemplateView.{template_of}
use Rattle.expr_reader.specs.declared.fault.ExprFault.{ExprFault}
use Rattle.expr_reader.specs.declared.template.Template.{Template}

-- The pieces, where there are any.
abbrev pub pieces_read : Result (List Piece) Failure → Option (List Piece)
pieces_read (Ok ps) = Some ps
pieces_read (Err x) = None

-- The pieces, where none names a status function.
abbrev pub without_status : List Piece → Option (List Piece)
without_status ps = if names_status ps then None else Some ps

-- The pieces that the text spells as a template, if it spells any.
unfoldable pub template_read : List ℕ → Option (List Piece)
template_read text =
    if nat_le (length text) longest_template
    then option_and_then without_status (pieces_read (read_pieces (length text) text))
    else None

-- The pieces that the text spells as a condition, if it spells any.
unfoldable pub condition_read : List ℕ → Option (List Piece)
condition_read text = pieces_read (read_trimmed 0 (trimmed text))

-- No expression stands in the text, and it is no longer than a template may be.
abbrev pub stands_for_itself : List ℕ → Bool
stands_for_itself text = nat_le (length text) longest_template && not (has_marker text)

-- The text as the one piece that it is; there is none in the empty text.
abbrev pub itself : List ℕ → List Piece
itself [] = []
itself (b ∷ bs) = plain (b ∷ bs) ∷ []

-- The text is a template, as a test.
abbrev pub is_template : List ℕ → Bool
is_template text = is_some (template_read text)

-- The text is a condition, as a test.
abbrev pub is_condition : List ℕ → Bool
is_condition text = is_some (condition_read text)

-- What is read as a template is what the text spells.
abbrev pub TemplatesAreRead : Type 0
TemplatesAreRead =
    (text : List ℕ) (ps : List Piece) → (template_read text ≡ Some ps) ↔ SpellsTemplate ps text

-- What stands for itself is read as itself.
abbrev pub WhatStandsForItselfIsRead : Type 0
WhatStandsForItselfIsRead =
    (text : List ℕ) → stands_for_itself text ≡ true → template_read text ≡ Some (itself text)

-- What is read as a condition is what the text spells.
abbrev pub ConditionsAreRead : Type 0
ConditionsAreRead =
    (text : List ℕ) (ps : List Piece) → (condition_read text ≡ Some ps) ↔ SpellsCondition ps text

-- A template is answered where these are its pieces, and a fault other than want of memory only
-- where there are none.
abbrev pub ReadsAs : Result Template ExprFault → Option (List Piece) → Type 0
ReadsAs (Ok template) pieces = pieces ≡ Some (template_of template)
ReadsAs (Err fault) pieces = IfSome (fault_at fault) (λ x. pieces ≡ None)
