-- The greatest text that an evaluation gives.
use Rattle.std.specs.Prelude.{ℕ, nat_le, if◌then◌else◌, Result, Ok, Err, List, length}
use Rattle.flow_model.specs.Plain as plain
use Rattle.flow_model.specs.declared.reply.ValueFault.{ValueFault}
use Rattle.flow_model.specs.declared.reply.ValueFault.TheVariants.{TooLarge}

-- 1 MiB
abbrev pub most_bytes : ℕ
most_bytes = 1048576

-- The text as a value, or TooLarge.
abbrev pub limited : List ℕ → Result plain.Plain ValueFault
limited bytes = if nat_le (length bytes) most_bytes then Ok (plain.text bytes) else Err TooLarge

-- A value that ends an evaluation: a text is limited.
abbrev pub last_value : plain.Plain → Result plain.Plain ValueFault
last_value plain.null = Ok plain.null
last_value (plain.truth b) = Ok (plain.truth b)
last_value (plain.whole z) = Ok (plain.whole z)
last_value (plain.text bytes) = limited bytes
last_value (plain.list vs) = Ok (plain.list vs)
last_value (plain.map ms) = Ok (plain.map ms)
