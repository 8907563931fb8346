-- The lines of a text.
use Rattle.std.specs.Prelude.{◌≡◌, ◌⊎◌, ℕ, List, [], ◌∷◌, ◌++◌, Bool, not, IsTrue, ◌==◌, if◌then◌else◌}
use Rattle.std.specs.List.{list_all}

-- the byte that ends a line
abbrev pub newline : ℕ
newline = 10

-- a byte before the first line
abbrev pub onto_first : ℕ → List (List ℕ) → List (List ℕ)
onto_first b [] = (b ∷ []) ∷ []
onto_first b (line ∷ lines) = (b ∷ line) ∷ lines

-- the lines, which end at newlines; the last may lack one
abbrev pub lines_of : List ℕ → List (List ℕ)
lines_of [] = []
lines_of (b ∷ text) = if b == newline then [] ∷ lines_of text else onto_first b (lines_of text)

-- no newline
abbrev pub is_line : List ℕ → Bool
is_line bytes = list_all (λ b. not (b == newline)) bytes

-- a text is a line, its newline and the rest, or a line that nothing follows
abbrev pub IsCut : List ℕ → List ℕ → List ℕ → Type 0
IsCut text line rest = IsTrue (is_line line) × ((text ≡ line ++ newline ∷ rest) ⊎ ((text ≡ line) × (rest ≡ [])))
