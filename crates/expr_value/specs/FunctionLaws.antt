-- Laws of the functions.
use Rattle.std.specs.Prelude.{ℕ, ◌≤◌, ◌==◌, Bool, true, if◌then◌else◌, IsTrue, Option, Some, None, is_some, unwrap_or, List, [], ◌∷◌, ◌++◌, length, codes, decimal, flat_map}
use Rattle.std.specs.List.{list_all, slice_get}
use Rattle.expr_reader.specs.Number.{digits_value}
use Rattle.expr_value.specs.Format.{opening, closing}
use Rattle.expr_value.specs.Formatting.{is_plain}
use Rattle.expr_value.specs.Functions.{pretty_text}
use Rattle.expr_value.specs.JsonNumber.{IsDigits}
use Rattle.expr_value.specs.Limit.{most_bytes}
use Rattle.flow_model.specs.Json.{is_in_range, json_of}
use Rattle.flow_model.specs.Plain.{Plain}
use Rattle.serde_json.specs.Data.{depth}

-- ---- format

-- A text without braces.
abbrev pub HasNoBrace : List ℕ → Type 0
HasNoBrace bytes = IsTrue (list_all is_plain bytes)

-- A text with each brace doubled.
abbrev pub with_doubled_braces : List ℕ → List ℕ
with_doubled_braces [] = []
with_doubled_braces (b ∷ bs) =
    if b == opening then opening ∷ opening ∷ with_doubled_braces bs
    else if b == closing then closing ∷ closing ∷ with_doubled_braces bs
    else b ∷ with_doubled_braces bs

-- What a format text is made of: a text that stands for itself, and the place of an argument by its digits.
pub data Slot : Type 0 where
  words : List ℕ → Slot
  place : List ℕ → Slot

-- Of a text its braces are doubled; a place is {digits}.
abbrev pub slot_text : Slot → List ℕ
slot_text (words text) = with_doubled_braces text
slot_text (place digits) = codes "{" ++ (digits ++ codes "}")

-- A place has one digit or more.
abbrev pub HasDigits : Slot → Type 0
HasDigits (words text) = Unit {0}
HasDigits (place digits) = IsDigits digits

-- The argument of a place.
abbrev pub argument_of : List (List ℕ) → List ℕ → Option (List ℕ)
argument_of arguments digits = slice_get arguments (digits_value 10 0 digits)

-- The argument is there.
abbrev pub is_given : List (List ℕ) → Slot → Bool
is_given arguments (words text) = true
is_given arguments (place digits) = is_some (argument_of arguments digits)

-- The text itself, or that of the argument.
abbrev pub filled : List (List ℕ) → Slot → List ℕ
filled arguments (words text) = text
filled arguments (place digits) = unwrap_or (argument_of arguments digits) []

-- All texts one after another, where each argument is there.
abbrev pub filled_text : List (List ℕ) → List Slot → Option (List ℕ)
filled_text arguments slots =
    if list_all (is_given arguments) slots then Some (flat_map (filled arguments) slots) else None

-- A format text with the place of argument n between two texts.
abbrev pub with_place : List ℕ → ℕ → List ℕ → List ℕ
with_place before n after =
    with_doubled_braces before ++ (codes "{" ++ (decimal n ++ (codes "}" ++ with_doubled_braces after)))

-- ---- toJSON, fromJSON

-- A value whose JSON is a text that reads back: its numbers are in range, it nests at most 127 deep, and the text
-- is within the limit.
pub record IsPrintable (v : Plain) : Type 0 where
  pub in_range : IsTrue (is_in_range v)
  pub shallow : depth (json_of v) ≤ 127
  pub short : length (pretty_text (json_of v)) ≤ most_bytes
