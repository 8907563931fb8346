-- Texts split at marks.
use Rattle.std.specs.Prelude.{ℕ, Bool, nat_eq, ◌==◌, ◌||◌, if◌then◌else◌, List, [], ◌∷◌, length, drop, Option, Some, None}
use Rattle.std.specs.List.{starts_with, prefix_len}
use Rattle.flow_model.specs.Lines.{onto_first}

-- a byte before the front of a text that is split
abbrev pub onto_front : ℕ → Option (List ℕ × List ℕ) → Option (List ℕ × List ℕ)
onto_front b None = None
onto_front b (Some x) = Some (b ∷ x.0, x.1)

-- what stands before the first place of a mark in a text, and what follows the mark there
abbrev pub split_first : List ℕ → List ℕ → Option (List ℕ × List ℕ)
split_first mark [] = None
split_first mark (b ∷ text) =
    if starts_with nat_eq (b ∷ text) mark then Some ([], drop (length mark) (b ∷ text))
    else onto_front b (split_first mark text)

-- what follows this front of a text, if it has it
abbrev pub after_front : List ℕ → List ℕ → Option (List ℕ)
after_front front text = if starts_with nat_eq text front then Some (drop (length front) text) else None

-- a space or a tab
abbrev pub is_blank : ℕ → Bool
is_blank b = b == 32 || b == 9

-- a text from its first byte on that is no space and no tab
abbrev pub from_text : List ℕ → List ℕ
from_text text = drop (prefix_len is_blank text) text

-- the parts of a text between commas
abbrev pub fields_of : List ℕ → List (List ℕ)
fields_of [] = [] ∷ []
fields_of (b ∷ text) = if b == 44 then [] ∷ fields_of text else onto_first b (fields_of text)
