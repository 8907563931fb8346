-- The bytes that tokens are made of.
use Rattle.std.specs.Prelude.{◌≡◌, ℕ, Bool, true, ◌&&◌, ◌||◌, ◌==◌, nat_le, List, [], ◌∷◌, length, drop}
use Rattle.std.specs.List.{prefix_len, list_all}
use Rattle.expr_reader.specs.Codes.{tab, newline, carriage_return, space, plus, hyphen, dot, digit_0, digit_9, upper_a, upper_z, underscore, lower_a, lower_z}

-- A space, a tab, a carriage return or a newline.
abbrev pub is_white : ℕ → Bool
is_white b = b == space || b == tab || b == carriage_return || b == newline

-- Nothing but white space.
abbrev pub is_blank : List ℕ → Bool
is_blank text = list_all is_white text

-- The text from its first byte that is not white on.
abbrev pub skip_white : List ℕ → List ℕ
skip_white bs = drop (prefix_len is_white bs) bs

abbrev pub is_letter : ℕ → Bool
is_letter b = nat_le upper_a b && nat_le b upper_z || nat_le lower_a b && nat_le b lower_z

abbrev pub is_digit : ℕ → Bool
is_digit b = nat_le digit_0 b && nat_le b digit_9

-- What a name begins with: a letter or _.
abbrev pub begins_name : ℕ → Bool
begins_name b = is_letter b || b == underscore

-- What a name goes on with: letters, digits, _ and -.
abbrev pub is_name : ℕ → Bool
is_name b = is_letter b || is_digit b || b == underscore || b == hyphen

-- What a number begins with: a digit or -.
abbrev pub begins_number : ℕ → Bool
begins_number b = is_digit b || b == hyphen

-- What a number goes on with: letters, digits, _, ., + and -.
abbrev pub is_number : ℕ → Bool
is_number b = is_letter b || is_digit b || b == underscore || b == dot || b == plus || b == hyphen

-- The one byte c.
abbrev pub is_byte : ℕ → ℕ → Bool
is_byte c b = b == c

-- Each byte passes.
abbrev pub IsRun : (ℕ → Bool) → List ℕ → Type 0
IsRun p bs = prefix_len p bs ≡ length bs

-- The first byte does not pass, if there is one.
abbrev pub Stops : (ℕ → Bool) → List ℕ → Type 0
Stops p bs = prefix_len p bs ≡ 0

-- A name.
abbrev pub IsWord : List ℕ → Type 0
IsWord [] = ⊥
IsWord (b ∷ bs) = (begins_name b ≡ true) × IsRun is_name (b ∷ bs)

-- What has to be a number, or is none.
abbrev pub IsNumeral : List ℕ → Type 0
IsNumeral [] = ⊥
IsNumeral (b ∷ bs) = (begins_number b ≡ true) × IsRun is_number (b ∷ bs)
