-- Texts ignoring case.
use Rattle.std.specs.Prelude.{◌≡◌, ℕ, List, map}
use Rattle.std.specs.Char.{to_ascii_lowercase}

-- The text with A to Z replaced by a to z.
abbrev pub fold : List ℕ → List ℕ
fold text = map to_ascii_lowercase text

-- Two texts are the same ignoring case.
abbrev pub SameText : List ℕ → List ℕ → Type 0
SameText a b = fold a ≡ fold b
