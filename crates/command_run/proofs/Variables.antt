-- The variables of the entries of an environment, one after the other.
use Rattle.std.proofs.Common.{◌≡◌, ℕ, ◌+◌, List, [], ◌∷◌, ◌++◌, Option, Some, None, refl, sym, ap, subst, ◌∙◌, append_assoc, append-nil, add-one}
use Rattle.flow_commands.specs.PairFiles.{Pair}
use Rattle.command_run.specs.Environment.{AreEntriesFrom, AreVariables, with_entries, with_entry}

-- These are the variables of the entries below a number.
pub record VariablesSoFar (holds : ℕ → Option (List ℕ) → Type 0) (number : ℕ) (variables : List Pair) : Type 0 where
  pub entries : List (List ℕ)
  pub all : (rest : List (List ℕ)) → AreEntriesFrom holds number rest → AreEntriesFrom holds 0 (entries ++ rest)
  pub is : variables ≡ with_entries entries []

entries_more : (entries : List (List ℕ)) (entry : List ℕ) (variables : List Pair)
    → with_entries (entries ++ entry ∷ []) variables ≡ with_entry entry (with_entries entries variables)
entries_more [] entry variables = refl
entries_more (first ∷ entries) entry variables = entries_more entries entry (with_entry first variables)

-- one more
pub variables_more : (holds : ℕ → Option (List ℕ) → Type 0) (number : ℕ) (entry : List ℕ) (variables variables' : List Pair) → VariablesSoFar holds number variables
    → holds number (Some entry) → variables' ≡ with_entry entry variables → VariablesSoFar holds (number + 1) variables'
variables_more holds number entry variables variables' sofar here is = record {
  entries = sofar.entries ++ entry ∷ [];
  all = λ rest are. subst (AreEntriesFrom holds 0) (sym (append_assoc sofar.entries (entry ∷ []) rest))
      (sofar.all (entry ∷ rest) (here, subst (λ (n : ℕ). AreEntriesFrom holds n rest) (add-one number) are));
  is = is ∙ ap (with_entry entry) sofar.is ∙ sym (entries_more sofar.entries entry []);
}

-- the environment ends
pub all_variables : (holds : ℕ → Option (List ℕ) → Type 0) (number : ℕ) (variables : List Pair) → VariablesSoFar holds number variables → holds number None
    → AreVariables holds variables
all_variables holds number variables sofar end =
    record { entries = sofar.entries; all = subst (AreEntriesFrom holds 0) (append-nil sofar.entries) (sofar.all [] end); is = sofar.is }
