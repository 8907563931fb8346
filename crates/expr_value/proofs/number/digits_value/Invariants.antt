use Rattle.std.proofs.Common.{◌≡◌, ◌≤◌, drop}
use Rattle.expr_reader.specs.Number.{greatest, digits_value}
use Rattle.expr_value.specs.Number.{in_range}
use Rattle.expr_value.proofs.number.digits_value.Given as goal

abbrev pub invariant-loop-digit : goal.invariant-loop-digit
invariant-loop-digit l = (l.value ≤ greatest) × (in_range (digits_value 10 l.value (drop l.digit-index l.digits)) ≡ in_range (digits_value 10 0 l.digits))
