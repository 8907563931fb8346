-- Texts in which what must not be seen is masked.
use Rattle.std.specs.Prelude.{ℕ, zero, suc, max, nat_eq, if◌then◌else◌, List, [], ◌∷◌, Option, Some, None, codes, length}
use Rattle.std.specs.List.{starts_with}
use Rattle.flow_commands.specs.Replace.{Rule, replaced}

-- how many bytes a mask has that stands at the front of the text, 0 where it does not
abbrev pub standing : List ℕ → List ℕ → ℕ
standing mask text = if starts_with nat_eq text mask then length mask else 0

-- how many bytes the longest mask has that stands at the front; an empty one counts for nothing
abbrev pub longest : List (List ℕ) → List ℕ → ℕ
longest [] text = 0
longest (mask ∷ masks) text = max (standing mask text) (longest masks text)

-- three stars for so many bytes of a mask
abbrev pub stars : ℕ → Option (List ℕ × ℕ)
stars zero = None
stars (suc n) = Some (codes "***", suc n)

-- the longest mask that stands at the front, if one does, is replaced by three stars
abbrev pub masking : List (List ℕ) → Rule
masking masks text = stars (longest masks text)

-- The text with three stars for the masks: from the left, at each place the longest mask that stands there.
abbrev pub masked : List (List ℕ) → List ℕ → List ℕ
masked masks text = replaced (masking masks) text
