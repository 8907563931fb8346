-- Variables of a command.
use Rattle.std.proofs.Common.{◌≡◌, ℕ, Bool, true, false, if◌then◌else◌, List, Some, refl}
use Rattle.std.proofs.lemmas.Slice.Eq.{bytes_eq-Decides}
use Rattle.std.specs.Process.{SameOtherVars, command_var}
use Rattle.std.specs.Str.{bytes_eq}
use Rattle.std.specs.declared.alloc.Global.{Global}
use Rattle.std.specs.declared.process.command.Command.{Command}

-- a variable is set, and others are kept
pub var_set : (old new : Command Global) (name value : List ℕ) → command_var new name ≡ Some (Some value) → SameOtherVars old new name
    → (k : List ℕ) → command_var new k ≡ (if bytes_eq k name then Some (Some value) else command_var old k)
var_set old new name value set kept k = by_test (bytes_eq k name) refl
  where
    by_test : (b : Bool) → bytes_eq k name ≡ b → command_var new k ≡ (if b then Some (Some value) else command_var old k)
    by_test true h = rw ((bytes_eq-Decides k name).0 h) set
    by_test false h = kept k (λ (e : k ≡ name). absurd (cc ((bytes_eq-Decides k name).1 e, h)))
