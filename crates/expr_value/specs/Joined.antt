-- How the texts of a template's pieces come together, for private clauses.
use Rattle.std.specs.Prelude.{ℕ, Bool, false, not, nat_le, Option, Result, Ok, Err, List, length}
use Rattle.expr_value.specs.Bounded.{grown}
use Rattle.expr_value.specs.PlainKind.{PlainKind, null, truth, whole, text, list, map}
use Rattle.expr_value.specs.Limit.{most_bytes}
use Rattle.flow_model.specs.declared.reply.ValueFault.{ValueFault}

-- A text that grows by an answer's text, or the answer's fault.
abbrev pub grown_answer : Option (List ℕ) → Result (List ℕ) ValueFault → Result (Option (List ℕ)) ValueFault
grown_answer held (Ok bytes) = Ok (grown held bytes)
grown_answer held (Err fault) = Err fault

-- It is a text beyond the limit.
abbrev pub is_too_large : PlainKind → Bool
is_too_large null = false
is_too_large (truth b) = false
is_too_large (whole z) = false
is_too_large (text bytes) = not (nat_le (length bytes) most_bytes)
is_too_large list = false
is_too_large map = false
