-- The number that a text writes (RFC 8259, "Numbers": an optional minus, an integer, and where there is one a
-- fraction and an exponent; no white space round it).
use Rattle.std.specs.Prelude.{ℕ, ℤ, pos, Bool, true, false, not, ◌&&◌, ◌||◌, ◌==◌, nat_le, if◌then◌else◌, Option, Some, None, Result, Ok, Err, List, [], ◌∷◌, take, drop}
use Rattle.std.specs.List.{list_all, prefix_len}
use Rattle.std.specs.Option.{option_map}
use Rattle.expr_reader.specs.Bytes.{is_digit}
use Rattle.expr_reader.specs.Number.{greatest, digits_value, negative}
use Rattle.flow_model.specs.declared.reply.ValueFault.{ValueFault}
use Rattle.flow_model.specs.declared.reply.ValueFault.TheVariants.{NotWhole}

-- 0
abbrev pub zero_digit : ℕ
zero_digit = 48

-- +
abbrev pub plus : ℕ
plus = 43

-- -
abbrev pub minus : ℕ
minus = 45

-- .
abbrev pub point : ℕ
point = 46

-- e
abbrev pub small_e : ℕ
small_e = 101

-- E
abbrev pub large_e : ℕ
large_e = 69

-- One digit or more, and nothing else.
abbrev pub is_digits : List ℕ → Bool
is_digits [] = false
is_digits (b ∷ bs) = list_all is_digit (b ∷ bs)

-- 0, or digits that do not begin with 0.
abbrev pub is_integer : List ℕ → Bool
is_integer [] = false
is_integer (b ∷ []) = is_digit b
is_integer (b ∷ c ∷ bs) = not (b == zero_digit) && list_all is_digit (b ∷ c ∷ bs)

-- Digits, with + or - before them or nothing.
abbrev pub is_power : List ℕ → Bool
is_power [] = false
is_power (b ∷ bs) = if b == plus || b == minus then is_digits bs else is_digits (b ∷ bs)

-- e or E and a power.
abbrev pub is_exponent : List ℕ → Bool
is_exponent [] = false
is_exponent (b ∷ bs) = (b == small_e || b == large_e) && is_power bs

-- Digits, and then nothing or an exponent.
abbrev pub is_part : List ℕ → List ℕ → Bool
is_part digits [] = is_digits digits
is_part digits (b ∷ bs) = is_digits digits && is_exponent (b ∷ bs)

-- What may follow a number's integer: a fraction, an exponent, or both.
abbrev pub is_tail : List ℕ → Bool
is_tail [] = false
is_tail (b ∷ bs) =
    if b == point then is_part (take (prefix_len is_digit bs) bs) (drop (prefix_len is_digit bs) bs)
    else is_exponent (b ∷ bs)

-- A whole number in range, or the fault of one out of range.
abbrev pub in_range : ℕ → Result (Option ℕ) ValueFault
in_range n = if nat_le n greatest then Ok (Some n) else Err NotWhole

-- The number of the digits at its front and what follows them. It is no number where they do not fit the
-- grammar, and the fault where it has a fraction or an exponent, or is out of range.
abbrev pub number_of_parts : List ℕ → List ℕ → Result (Option ℕ) ValueFault
number_of_parts digits [] = if is_integer digits then in_range (digits_value 10 0 digits) else Ok None
number_of_parts digits (b ∷ bs) = if is_integer digits && is_tail (b ∷ bs) then Err NotWhole else Ok None

-- The number of a text without a sign.
abbrev pub unsigned_number : List ℕ → Result (Option ℕ) ValueFault
unsigned_number bs = number_of_parts (take (prefix_len is_digit bs) bs) (drop (prefix_len is_digit bs) bs)

-- A number with a minus, or without.
abbrev pub sign_of : Bool → ℕ → ℤ
sign_of true = negative
sign_of false = pos

-- A number under its sign.
abbrev pub with_sign : (ℕ → ℤ) → Result (Option ℕ) ValueFault → Result (Option ℤ) ValueFault
with_sign sign (Ok n) = Ok (option_map sign n)
with_sign sign (Err fault) = Err fault

-- The number of a text: none is not-a-number, and the empty text is 0.
abbrev pub number_of_text : List ℕ → Result (Option ℤ) ValueFault
number_of_text [] = Ok (Some (pos 0))
number_of_text (b ∷ bs) =
    if b == minus then with_sign negative (unsigned_number bs) else with_sign pos (unsigned_number (b ∷ bs))
