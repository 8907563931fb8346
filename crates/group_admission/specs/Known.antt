-- All names that were entered: each with who holds it and who waits for it, or with nobody.
use Rattle.std.specs.Prelude.{◌≡◌, ◌≢◌, ℕ, Bool, true, List, [], ◌∷◌, Option, is_some, if◌then◌else◌}
use Rattle.flow_model.specs.Mapping.{value_at, with_pair}
use Rattle.group_admission.specs.Content.{Content, with_held}
use Rattle.group_admission.specs.declared.held.Held.{Held}

-- The names that were entered, in their byte order. A name stays known when nobody holds it any more.
abbrev pub Known : Type 0
Known = List (List ℕ × Option Held)

-- Those that are held.
abbrev pub content : Known → Content
content [] = []
content (pair ∷ pairs) = with_held pair.0 pair.1 (content pairs)

-- Whether a name was entered.
abbrev pub is_known : List ℕ → Known → Bool
is_known name known = is_some (value_at name known)

-- The names, with this one held so, or by nobody, if it is known.
abbrev pub put_known : List ℕ → Option Held → Known → Known
put_known name held known = if is_known name known then with_pair name held known else known

-- What is known stays known, and no name becomes so but this one.
pub record Grows (name : List ℕ) (old new : Known) : Type 0 where
  pub kept : (q : List ℕ) → is_known q old ≡ true → is_known q new ≡ true
  pub others : (q : List ℕ) → q ≢ name → is_known q new ≡ is_known q old
