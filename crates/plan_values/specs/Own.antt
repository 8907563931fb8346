-- What stands for itself is not evaluated.
use Rattle.std.specs.Prelude.{ℕ, ◌&&◌, Bool, true, Result, Ok, Err, List, [], ◌∷◌}
use Rattle.expr_reader.specs.Accepts.{stands_for_itself}
use Rattle.flow_model.specs.Plain.{Plain, null, truth, whole, text, list, map}
use Rattle.flow_model.specs.declared.reply.ValueFault.{ValueFault}

-- There is a value.
abbrev pub HasNoFault : {A : Type 0} → Result A ValueFault → Type 0
HasNoFault (Ok x) = Unit {0}
HasNoFault (Err fault) = ⊥

-- A value is taken as it is: any but a text in which an expression stands.
abbrev pub is_own_value : Plain → Bool
is_own_value null = true
is_own_value (truth b) = true
is_own_value (whole z) = true
is_own_value (text bytes) = stands_for_itself bytes
is_own_value (list vs) = true
is_own_value (map ms) = true

-- So is each value of an `env`.
abbrev pub has_own_values : List (List ℕ × Plain) → Bool
has_own_values [] = true
has_own_values (p ∷ ps) = is_own_value p.1 && has_own_values ps
