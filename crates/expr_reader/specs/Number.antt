-- The whole numbers that an expression writes.
use Rattle.std.specs.Prelude.{ℕ, zero, suc, ◌+◌, ◌*◌, ℤ, pos, negsuc, Bool, ◌&&◌, ◌==◌, nat_lt, nat_le, if◌then◌else◌, Option, Some, None, List, [], ◌∷◌}
use Rattle.std.specs.Char.{digit_value}
use Rattle.std.specs.List.{list_all}
use Rattle.std.specs.Option.{option_map}
use Rattle.expr_reader.specs.Codes.{hyphen, digit_0, lower_x}

-- The greatest whole number; the least is its opposite.
abbrev pub greatest : ℕ
greatest = 9007199254740991

-- The value of digits in a base, after digits of value n.
abbrev pub digits_value : ℕ → ℕ → List ℕ → ℕ
digits_value base n [] = n
digits_value base n (b ∷ bs) = digits_value base (n * base + digit_value b) bs

-- A digit in a base, a letter of either case being one from 10 on.
abbrev pub is_digit_in : ℕ → ℕ → Bool
is_digit_in base b = nat_lt (digit_value b) base

-- The number of digits in a base that come after digits of value n, where it is in range.
abbrev pub digits_from : ℕ → ℕ → List ℕ → Option ℕ
digits_from base n bs =
    if list_all (is_digit_in base) bs && nat_le (digits_value base n bs) greatest
    then Some (digits_value base n bs)
    else None

-- The number of one digit or more.
abbrev pub digits_number : ℕ → List ℕ → Option ℕ
digits_number base [] = None
digits_number base (b ∷ bs) = digits_from base 0 (b ∷ bs)

-- 0, or a digit from 1 to 9 and digits.
abbrev pub decimal_number : List ℕ → Option ℕ
decimal_number [] = None
decimal_number (b ∷ []) = digits_number 10 (b ∷ [])
decimal_number (b ∷ c ∷ bs) = if b == digit_0 then None else digits_number 10 (b ∷ c ∷ bs)

-- After a 0: nothing, or x and hexadecimal digits.
abbrev pub after_zero : List ℕ → Option ℕ
after_zero [] = Some 0
after_zero (b ∷ bs) = if b == lower_x then digits_number 16 bs else None

-- The opposite of a number.
abbrev pub negative : ℕ → ℤ
negative zero = pos 0
negative (suc n) = negsuc n

-- The whole number that the bytes write, if they write one in range: - or nothing and a decimal number,
-- or 0x and hexadecimal digits.
abbrev pub number_of : List ℕ → Option ℤ
number_of [] = None
number_of (b ∷ bs) =
    if b == hyphen then option_map negative (decimal_number bs)
    else option_map pos (if b == digit_0 then after_zero bs else decimal_number (b ∷ bs))
