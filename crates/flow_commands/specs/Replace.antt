-- A text in which something is replaced, in one pass from the left.
use Rattle.std.specs.Prelude.{ℕ, zero, suc, ◌-◌, List, [], ◌∷◌, ◌++◌, Option, Some, None}

-- What stands at the front of a text and is replaced, if anything is: what it is replaced by, and how many bytes it has.
abbrev pub Rule : Type 0
Rule = List ℕ → Option (List ℕ × ℕ)

-- what the rule gives at a place, before what follows the byte there, or what follows all that is replaced
abbrev pub put : Option (List ℕ × ℕ) → ℕ → (ℕ → List ℕ) → List ℕ
put None b rest = b ∷ rest 0
put (Some x) b rest = x.0 ++ rest (x.1 - 1)

-- The text from after its first bytes on, which were replaced already: at each place from the left, what stands there is
-- replaced by the rule, and reading goes on behind it.
abbrev pub replaced_after : Rule → ℕ → List ℕ → List ℕ
replaced_after rule passed [] = []
replaced_after rule zero (b ∷ text) = put (rule (b ∷ text)) b (λ n. replaced_after rule n text)
replaced_after rule (suc passed) (b ∷ text) = replaced_after rule passed text

-- The text with all replaced.
abbrev pub replaced : Rule → List ℕ → List ℕ
replaced rule text = replaced_after rule 0 text
