-- A value as a text, as a number and as a truth value (GitHub Docs, "Evaluate expressions in workflows and
-- actions": operators, type conversions).
use Rattle.std.specs.Prelude.{ℕ, ℤ, pos, Bool, true, false, not, ◌==◌, if◌then◌else◌, Option, Some, None, Result, Ok, List, [], length, codes}
use Rattle.std.specs.Fmt.{signed_decimal}
use Rattle.std.specs.Ordering.{int_eq}
use Rattle.expr_value.specs.PlainKind.{PlainKind, null, truth, whole, text, list, map}
use Rattle.expr_value.specs.Number.{number_of_text}
use Rattle.flow_model.specs.declared.reply.ValueFault.{ValueFault}

-- Nothing of null, true or false, a number in decimal, a text itself, Array of a list and Object of a map.
abbrev pub text_of : PlainKind → List ℕ
text_of null = []
text_of (truth b) = if b then codes "true" else codes "false"
text_of (whole z) = signed_decimal z
text_of (text bytes) = bytes
text_of list = codes "Array"
text_of map = codes "Object"

-- None is not-a-number.
abbrev pub number_of : PlainKind → Result (Option ℤ) ValueFault
number_of null = Ok (Some (pos 0))
number_of (truth b) = Ok (Some (if b then pos 1 else pos 0))
number_of (whole z) = Ok (Some z)
number_of (text bytes) = number_of_text bytes
number_of list = Ok None
number_of map = Ok None

-- All is true but null, false, 0 and the empty text.
abbrev pub truth_of : PlainKind → Bool
truth_of null = false
truth_of (truth b) = b
truth_of (whole z) = not (int_eq z (pos 0))
truth_of (text bytes) = not (length bytes == 0)
truth_of list = true
truth_of map = true
