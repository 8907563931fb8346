-- The variables that the entries of an environment are.
use Rattle.std.specs.Prelude.{◌≡◌, ℕ, suc, Bool, ◌==◌, nat_lt, if◌then◌else◌, List, [], ◌∷◌, length, Option, Some, None}
use Rattle.std.specs.List.{after_first, before_first, position_or_len}
use Rattle.std.specs.Str.{is_utf8}
use Rattle.status_table.specs.Words.{with_pair}
use Rattle.flow_commands.specs.PairFiles.{Pair}

-- the sign `=`
abbrev pub is_equals : ℕ → Bool
is_equals b = b == 61

-- a name of a byte at least, with its value
abbrev pub named : List ℕ → List ℕ → Option Pair
named [] value = None
named (b ∷ name) value = Some (b ∷ name, value)

-- The variable that a text is: `NAME=VALUE`, where the name ends at the first `=`.
abbrev pub variable_in : List ℕ → Option Pair
variable_in text =
    if nat_lt (position_or_len is_equals text) (length text) then named (before_first is_equals text) (after_first is_equals text) else None

-- The variable that an entry is. What is no text is none.
abbrev pub variable_of : List ℕ → Option Pair
variable_of entry = if is_utf8 entry then variable_in entry else None

-- variables with that of an entry, if it is one; the last of one name stands
abbrev pub with_variable : Option Pair → List Pair → List Pair
with_variable None variables = variables
with_variable (Some variable) variables = with_pair variable.0 variable.1 variables

abbrev pub with_entry : List ℕ → List Pair → List Pair
with_entry entry variables = with_variable (variable_of entry) variables

-- variables with those of entries, one after the other
abbrev pub with_entries : List (List ℕ) → List Pair → List Pair
with_entries [] variables = variables
with_entries (entry ∷ entries) variables = with_entries entries (with_entry entry variables)

-- The entries of an environment from this number on are these, where this is known of each entry and of its end.
abbrev pub AreEntriesFrom : (ℕ → Option (List ℕ) → Type 0) → ℕ → List (List ℕ) → Type 0
AreEntriesFrom holds number [] = holds number None
AreEntriesFrom holds number (entry ∷ entries) = holds number (Some entry) × AreEntriesFrom holds (suc number) entries

-- The variables are those of all entries of an environment.
pub record AreVariables (holds : ℕ → Option (List ℕ) → Type 0) (variables : List Pair) : Type 0 where
  pub entries : List (List ℕ)
  pub all : AreEntriesFrom holds 0 entries
  pub is : variables ≡ with_entries entries []

-- A host starts programs so over the variables of an environment.
abbrev pub StartsOver : (ℕ → Option (List ℕ) → Type 0) → (List Pair → Type 0) → Type 0
StartsOver holds starts = (base : List Pair) × AreVariables holds base × starts base
