-- The value of `format` (GitHub Docs, "Evaluate expressions in workflows and actions": format).
use Rattle.std.specs.Prelude.{ℕ, ◌+◌, ◌*◌, ◌==◌, if◌then◌else◌, Option, Some, None, List, [], ◌∷◌, ◌++◌}
use Rattle.std.specs.Char.{digit_value}
use Rattle.std.specs.List.{slice_get}
use Rattle.std.specs.Option.{option_map, option_and_then}
use Rattle.expr_reader.specs.Bytes.{is_digit}

-- {
abbrev pub opening : ℕ
opening = 123

-- }
abbrev pub closing : ℕ
closing = 125

-- The text with a byte before it.
abbrev pub after_byte : ℕ → Option (List ℕ) → Option (List ℕ)
after_byte b rest = option_map (λ bytes. b ∷ bytes) rest

-- The text with an argument's text before it, where there is that argument.
abbrev pub after_argument : Option (List ℕ) → Option (List ℕ) → Option (List ℕ)
after_argument argument rest = option_and_then (λ front. option_map (λ bytes. front ++ bytes) rest) argument

-- A format text from the left, with the texts of the arguments: {{ is {, }} is }, {digits} is the text of that
-- argument, from 0; any other brace, and an argument that is not there, makes it no format.
abbrev mutual
  -- From the start of a piece.
  pub formatted : List (List ℕ) → List ℕ → Option (List ℕ)
  formatted arguments [] = Some []
  formatted arguments (b ∷ bs) =
      if b == opening then opened arguments bs
      else if b == closing then closed arguments bs
      else after_byte b (formatted arguments bs)

  -- After an opening brace.
  pub opened : List (List ℕ) → List ℕ → Option (List ℕ)
  opened arguments [] = None
  opened arguments (b ∷ bs) =
      if b == opening then after_byte opening (formatted arguments bs)
      else if is_digit b then numbered arguments (digit_value b) bs
      else None

  -- After an opening brace and the digits of a number.
  pub numbered : List (List ℕ) → ℕ → List ℕ → Option (List ℕ)
  numbered arguments n [] = None
  numbered arguments n (b ∷ bs) =
      if is_digit b then numbered arguments (n * 10 + digit_value b) bs
      else if b == closing then after_argument (slice_get arguments n) (formatted arguments bs)
      else None

  -- After a closing brace.
  pub closed : List (List ℕ) → List ℕ → Option (List ℕ)
  closed arguments [] = None
  closed arguments (b ∷ bs) = if b == closing then after_byte closing (formatted arguments bs) else None
