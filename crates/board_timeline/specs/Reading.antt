-- How XML reads the text between two tags (Extensible Markup Language 1.0, sections 2.2, 2.4 and 4.6), as far as texts go that have
-- no other references than those by name, and are in UTF-8: what XML forbids is read as nothing, and so are control characters.
use Rattle.std.specs.Prelude.{◌≡◌, ◌==◌, ◌&&◌, ◌++◌, ℕ, true, if◌then◌else◌, List, [], ◌∷◌, codes, nat_le, nat_lt, Option, Some, None}
use Rattle.std.specs.List.{list_all}
use Rattle.std.specs.Str.{bytes_eq}
use Rattle.board_timeline.specs.Escaped.{escaped, is_forbidden, seen_after, shown_text}

-- Where a reader is: in plain text, of whose last bytes so many are those of a character that XML forbids, or in the name of a
-- reference, of which these bytes were read.
pub data MarkupPlace : Type 0 where
  plain : ℕ → MarkupPlace
  reference : List ℕ → MarkupPlace

-- The text up to the next tag, and what stands from there on.
abbrev pub Read : Type 0
Read = Option (List ℕ × List ℕ)

-- These bytes stand before the rest of the text.
abbrev pub onto : List ℕ → Read → Read
onto bytes None = None
onto bytes (Some read) = Some (bytes ++ read.0, read.1)

-- The character that a reference names.
abbrev pub named : List ℕ → Option ℕ
named name =
    if bytes_eq name (codes "lt") then Some 60
    else (if bytes_eq name (codes "gt") then Some 62
    else (if bytes_eq name (codes "amp") then Some 38
    else (if bytes_eq name (codes "quot") then Some 34
    else (if bytes_eq name (codes "apos") then Some 39 else None))))

-- The character of a reference stands before the rest of the text.
abbrev pub onto_named : Option ℕ → Read → Read
onto_named None read = None
onto_named (Some b) read = onto (b ∷ []) read

-- A text up to the tag that follows it. Between tags a reference by name is the character that it names, and each other byte
-- stands for itself.
abbrev pub read_text : MarkupPlace → List ℕ → Read
read_text place [] = None
read_text (plain seen) (b ∷ bs) =
    if b == 60 then Some ([], b ∷ bs)
    else (if b == 62 then None
    else (if b == 38 then read_text (reference []) bs
    else (if nat_lt b 32 then None
    else (if is_forbidden seen b then None else onto (b ∷ []) (read_text (plain (seen_after seen b)) bs)))))
read_text (reference name) (b ∷ bs) =
    if b == 59 then onto_named (named name) (read_text (plain 0) bs) else read_text (reference (name ++ b ∷ [])) bs

-- The text at the front of bytes, and the tag after it with what follows.
abbrev pub read_words : List ℕ → Read
read_words bytes = read_text (plain 0) bytes

-- A text between tags is read as that text as a picture shows it, whatever stands after it, which stays as it is.
abbrev pub EscapedTextsAreRead : Type 0
EscapedTextsAreRead = (text rest : List ℕ) → read_words (escaped text ++ 60 ∷ rest) ≡ Some (shown_text text, 60 ∷ rest)

-- A text of printed characters of ASCII is shown as it is.
abbrev pub PlainTextsAreShown : Type 0
PlainTextsAreShown = (text : List ℕ) → list_all (λ b. nat_le 32 b && nat_lt b 127) text ≡ true → shown_text text ≡ text
