-- How a text is spelled between the tags of XML (Extensible Markup Language 1.0, sections 2.2, 2.4 and 4.6).
use Rattle.std.specs.Prelude.{◌==◌, ◌+◌, ◌&&◌, ◌||◌, ◌++◌, ◌≡◌, ℕ, Bool, nat_lt, if◌then◌else◌, List, [], ◌∷◌, codes}

-- A control character has a picture of its own in Unicode, from U+2400 on; these are its bytes.
abbrev pub picture : ℕ → List ℕ
picture b = 226 ∷ 144 ∷ (128 + b) ∷ []

-- That of the last of them, 127, is U+2421.
abbrev pub delete_picture : List ℕ
delete_picture = 226 ∷ 144 ∷ 161 ∷ []

-- XML forbids U+FFFE and U+FFFF besides, whose bytes are 239, 191, and 190 or 191. So many of them stand before the end of a
-- byte, where so many stood before it.
abbrev pub seen_after : ℕ → ℕ → ℕ
seen_after seen b = if b == 239 then 1 else (if seen == 1 && b == 191 then 2 else 0)

-- A byte ends such a character.
abbrev pub is_forbidden : ℕ → ℕ → Bool
is_forbidden seen b = seen == 2 && (b == 190 || b == 191)

-- A byte as a picture shows it: control characters by their pictures.
abbrev pub shown : ℕ → List ℕ
shown b = if nat_lt b 32 then picture b else (if b == 127 then delete_picture else b ∷ [])

-- A byte as a picture shows it after others: a character that XML forbids is shown as U+FFFD, which stands for those that
-- cannot be shown.
abbrev pub shown_next : ℕ → ℕ → List ℕ
shown_next seen b = if is_forbidden seen b then 189 ∷ [] else shown b

-- A text as a picture shows it, after others.
abbrev pub shown_after : ℕ → List ℕ → List ℕ
shown_after seen [] = []
shown_after seen (b ∷ bs) = shown_next seen b ++ shown_after (seen_after seen b) bs

-- A text as a picture shows it.
abbrev pub shown_text : List ℕ → List ℕ
shown_text text = shown_after 0 text

-- A byte between tags: what begins tags and references, and quotes, by the names that XML has for them.
abbrev pub spell : ℕ → List ℕ
spell b =
    if b == 60 then codes "&lt;"
    else (if b == 62 then codes "&gt;"
    else (if b == 38 then codes "&amp;"
    else (if b == 34 then codes "&quot;"
    else (if b == 39 then codes "&apos;"
    else (if nat_lt b 32 then picture b
    else (if b == 127 then delete_picture else b ∷ []))))))

-- A byte between tags after others: what XML forbids is spelled as U+FFFD.
abbrev pub spell_next : ℕ → ℕ → List ℕ
spell_next seen b = if is_forbidden seen b then 189 ∷ [] else spell b

-- A text between tags, after others.
abbrev pub escaped_after : ℕ → List ℕ → List ℕ
escaped_after seen [] = []
escaped_after seen (b ∷ bs) = spell_next seen b ++ escaped_after (seen_after seen b) bs

-- A text between tags.
abbrev pub escaped : List ℕ → List ℕ
escaped text = escaped_after 0 text

-- These words were added to a text.
abbrev pub Adds : List ℕ → List ℕ → List ℕ → Type 0
Adds old new words = new ≡ old ++ words
