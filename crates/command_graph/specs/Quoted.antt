-- How a text is spelled as a quoted string of DOT that is a label (Graphviz Docs, The DOT Language; escString).
use Rattle.std.specs.Prelude.{◌≡◌, ◌==◌, ◌+◌, ◌&&◌, ◌||◌, ◌++◌, ℕ, suc, Bool, true, false, nat_le, nat_lt, if◌then◌else◌, List, [], ◌∷◌, codes}
use Rattle.std.specs.List.{flat_map}

-- A control character has a picture of its own in Unicode, from U+2400 on; these are its bytes.
abbrev pub picture : ℕ → List ℕ
picture b = 226 ∷ 144 ∷ (128 + b) ∷ []

-- A byte as a picture shows it: control characters by their pictures, but for the newline.
abbrev pub shown : ℕ → List ℕ
shown b = if b == 10 then b ∷ [] else (if nat_lt b 32 then picture b else b ∷ [])

-- A text as a picture shows it.
abbrev pub shown_text : List ℕ → List ℕ
shown_text = flat_map shown

-- A byte between quotes: a quote and a backslash after a backslash, an ampersand by its name, a newline as the escape of
-- one, and any other control character by its picture.
abbrev pub spell : ℕ → List ℕ
spell b =
    if b == 34 then 92 ∷ 34 ∷ []
    else (if b == 92 then 92 ∷ 92 ∷ []
    else (if b == 38 then codes "&amp;"
    else (if b == 10 then 92 ∷ 110 ∷ []
    else (if nat_lt b 32 then picture b else b ∷ []))))

-- In UTF-8 a byte begins a character, or goes on with it.
abbrev pub begins_character : ℕ → Bool
begins_character b = nat_lt b 128 || nat_le 192 b

-- A row of this many bytes of a text is folded before the next character: programs refuse strings with rows of 16,384 bytes,
-- and a byte is spelled by five at most.
abbrev pub is_long : ℕ → ℕ → Bool
is_long n b = nat_le 2048 n && begins_character b

-- The end of a line after a backslash, which is no part of the string.
abbrev pub fold : Bool → List ℕ
fold false = []
fold true = 92 ∷ 10 ∷ []

-- How many bytes stand in the row, with one more.
abbrev pub row_after : Bool → ℕ → ℕ
row_after false n = suc n
row_after true n = 1

-- A text between quotes, of which n bytes stand in the row before.
abbrev pub spelled : ℕ → List ℕ → List ℕ
spelled n [] = []
spelled n (b ∷ bs) = fold (is_long n b) ++ (spell b ++ spelled (row_after (is_long n b) n) bs)

-- A text in quotes.
abbrev pub quoted : List ℕ → List ℕ
quoted text = 34 ∷ (spelled 0 text ++ 34 ∷ [])

-- These words were added to a text.
abbrev pub Adds : List ℕ → List ℕ → List ℕ → Type 0
Adds old new words = new ≡ old ++ words
