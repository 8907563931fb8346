-- A text that grows up to the limit: nothing once the limit is passed.
use Rattle.std.specs.Prelude.{ℕ, ◌≤◌, nat_le, if◌then◌else◌, Option, Some, None, Result, Ok, Err, List, ◌++◌, length}
use Rattle.expr_value.specs.Limit.{most_bytes}
use Rattle.flow_model.specs.Plain as plain
use Rattle.flow_model.specs.declared.reply.ValueFault.{ValueFault}
use Rattle.flow_model.specs.declared.reply.ValueFault.TheVariants.{TooLarge}

-- A text, if it is within the limit.
abbrev pub within : List ℕ → Option (List ℕ)
within bytes = if nat_le (length bytes) most_bytes then Some bytes else None

-- With more bytes at its end.
abbrev pub grown : Option (List ℕ) → List ℕ → Option (List ℕ)
grown None more = None
grown (Some bytes) more = within (bytes ++ more)

-- What it has come to, as a value.
abbrev pub grown_value : Option (List ℕ) → Result plain.Plain ValueFault
grown_value None = Err TooLarge
grown_value (Some bytes) = Ok (plain.text bytes)

-- It is within the limit.
abbrev pub FitsLimit : Option (List ℕ) → Type 0
FitsLimit None = Unit {0}
FitsLimit (Some bytes) = length bytes ≤ most_bytes
