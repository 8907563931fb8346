-- The steps in which `format` is computed.
use Rattle.std.specs.Prelude.{◌≡◌, ◌≢◌, ℕ, ◌≤◌, ◌==◌, ◌||◌, Bool, not, Option, Some, None, Result, Err, List, ◌++◌, length, map}
use Rattle.std.specs.Borrow.{Bor}
use Rattle.std.specs.Option.{option_map}
use Rattle.expr_value.specs.Bounded.{grown, grown_value}
use Rattle.expr_value.specs.Convert.{text_of}
use Rattle.expr_value.specs.Format.{opening, closing, formatted}
use Rattle.expr_value.specs.Functions.{text_of_value}
use Rattle.expr_value.specs.Seen.{items_seen, kind_seen}
use Rattle.expr_value.specs.declared.item.Item.{Item}
use Rattle.expr_value.specs.declared.kind.ValueKind.{ValueKind}
use Rattle.flow_model.specs.Plain.{Plain}
use Rattle.flow_model.specs.declared.reply.ValueFault.{ValueFault}
use Rattle.flow_model.specs.declared.reply.ValueFault.TheVariants.{BadFormat}

-- The texts of arguments.
abbrev pub texts_of : List Item → List (List ℕ)
texts_of arguments = map text_of_value (items_seen arguments)

-- A byte that stands for itself.
abbrev pub is_plain : ℕ → Bool
is_plain b = not (b == opening || b == closing)

-- The text does not begin with the part.
abbrev pub BeginsOther : List ℕ → List ℕ → Type 0
BeginsOther part text = (rest : List ℕ) → text ≢ part ++ rest

-- What a text that grew so far gives, where the rest is formatted to this.
abbrev pub ended : Option (List ℕ) → Option (List ℕ) → Result Plain ValueFault
ended so_far None = Err BadFormat
ended so_far (Some bytes) = grown_value (grown so_far bytes)

-- What was found at the front of a format text: the kind that has its text, and the rest, which has at most so many
-- bytes; or it is no format.
abbrev pub Splits : List (List ℕ) → Option (List ℕ) → ℕ → Option (ValueKind × Bor (List ℕ)) → Type 0
Splits arguments meaning size None = meaning ≡ None
Splits arguments meaning size (Some (kind, rest)) =
    (meaning ≡ option_map (λ bytes. text_of (kind_seen kind) ++ bytes) (formatted arguments rest.now)) × (length rest.now ≤ size)
