-- Lines as they are told, in which names from files stand: each control character is told by its picture, so that what is
-- told as a line is one line, whatever its names are.
use Rattle.std.specs.Prelude.{◌≡◌, ◌==◌, ◌+◌, ◌&&◌, ◌++◌, ℕ, Bool, true, not, nat_lt, if◌then◌else◌, List, map, codes, chars, encode_utf8_all}
use Rattle.std.specs.Char.{encode_utf8}
use Rattle.std.specs.List.{list_all, flat_map}

-- A character as it is shown. The control characters of ASCII have pictures of their own in Unicode: 0 to 31 from U+2400 on,
-- and 127 has U+2421.
abbrev pub picture : ℕ → ℕ
picture c = if nat_lt c 32 then 0x2400 + c else (if c == 127 then 0x2421 else c)

abbrev pub shown_character : ℕ → List ℕ
shown_character c = encode_utf8 (picture c)

-- A text as it is shown, character by character.
abbrev pub shown : List ℕ → List ℕ
shown text = encode_utf8_all (map picture (chars text))

-- A line with its end.
abbrev pub ended : List ℕ → List ℕ
ended line = line ++ codes "\n"

-- The line that tells a text.
abbrev pub line_of : List ℕ → List ℕ
line_of text = ended (shown text)

-- No byte is a control character of ASCII.
abbrev pub is_plain : List ℕ → Bool
is_plain bytes = list_all (λ b. not (nat_lt b 32) && not (b == 127)) bytes

-- The text is one line without a control character but for its end.
abbrev pub IsPlainLine : List ℕ → Type 0
IsPlainLine text = (words : List ℕ) × ((is_plain words ≡ true) × (text ≡ ended words))

-- The text is made of lines without a control character but for their ends.
abbrev pub HasPlainLines : List ℕ → Type 0
HasPlainLines text = (lines : List (List ℕ)) × ((list_all is_plain lines ≡ true) × (text ≡ flat_map ended lines))
