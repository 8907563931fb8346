-- The bytes of each class.
use Rattle.std.specs.Prelude.{ℕ, Bool}
use Rattle.expr_reader.specs.Bytes.{is_white, is_name, is_number}
use Rattle.expr_reader.specs.declared.bytes.Class.{Class}
use Rattle.expr_reader.specs.declared.bytes.Class.TheVariants.{White, Name, Number}

abbrev pub in_class : Class → ℕ → Bool
in_class White = is_white
in_class Name = is_name
in_class Number = is_number
