-- The digits so far and those that are left are the whole number.
use Rattle.std.proofs.Common.{◌≡◌, ◌≤◌, drop}
use Rattle.expr_reader.specs.Number.{greatest, digits_from}
use Rattle.expr_reader.proofs.number.digits_value.Given as goal

abbrev pub invariant-loop-byte : goal.invariant-loop-byte
invariant-loop-byte l = (l.value ≤ greatest) × (digits_from l.base l.value (drop l.byte-index l.bytes) ≡ digits_from l.base 0 l.bytes)
