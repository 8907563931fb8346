-- How Graphviz reads a quoted string that is a label (Graphviz Docs, The DOT Language; escString), as far as strings go
-- that say nothing but a text: a string that names another object, sets its lines to a side or has another character
-- reference than that of the ampersand is read as nothing here.
use Rattle.std.specs.Prelude.{◌≡◌, ◌==◌, ◌++◌, ℕ, if◌then◌else◌, List, [], ◌∷◌, codes, nat_le, true, Option, Some, None}
use Rattle.std.specs.List.{list_all}
use Rattle.command_graph.specs.Quoted.{quoted, shown_text}

-- Where a reader is in a string: in its plain text, after a backslash, or before the letters that an ampersand still wants.
pub data StringPlace : Type 0 where
  plain : StringPlace
  escape : StringPlace
  reference : List ℕ → StringPlace

-- The text of a string, and what stands after it.
abbrev pub Read : Type 0
Read = Option (List ℕ × List ℕ)

-- These bytes stand before the rest of the text.
abbrev pub onto : List ℕ → Read → Read
onto bytes None = None
onto bytes (Some read) = Some (bytes ++ read.0, read.1)

-- A string from after its first quote on. Between the quotes an escaped quote is a quote, an escaped backslash a backslash,
-- an escaped n a new line, an escaped end of line nothing, `&amp;` an ampersand, and each other byte stands for itself.
abbrev pub read_string : StringPlace → List ℕ → Read
read_string place [] = None
read_string plain (b ∷ bs) =
    if b == 34 then Some ([], bs)
    else (if b == 92 then read_string escape bs
    else (if b == 38 then read_string (reference (codes "amp;")) bs
    else (if b == 0 then None else onto (b ∷ []) (read_string plain bs))))
read_string escape (b ∷ bs) =
    if b == 34 then onto (34 ∷ []) (read_string plain bs)
    else (if b == 92 then onto (92 ∷ []) (read_string plain bs)
    else (if b == 110 then onto (10 ∷ []) (read_string plain bs)
    else (if b == 10 then read_string plain bs else None)))
read_string (reference []) (b ∷ bs) = None
read_string (reference (c ∷ [])) (b ∷ bs) = if b == c then onto (38 ∷ []) (read_string plain bs) else None
read_string (reference (c ∷ d ∷ ds)) (b ∷ bs) = if b == c then read_string (reference (d ∷ ds)) bs else None

-- A quoted string at the front of a text, and what stands after it.
abbrev pub read_quoted : List ℕ → Read
read_quoted [] = None
read_quoted (b ∷ bs) = if b == 34 then read_string plain bs else None

-- A text in quotes is read as that text as a picture shows it, whatever stands after it, which stays as it is.
abbrev pub QuotedTextsAreRead : Type 0
QuotedTextsAreRead = (text rest : List ℕ) → read_quoted (quoted text ++ rest) ≡ Some (shown_text text, rest)

-- A text without control characters is shown as it is.
abbrev pub PlainTextsAreShown : Type 0
PlainTextsAreShown = (text : List ℕ) → list_all (nat_le 32) text ≡ true → shown_text text ≡ text
