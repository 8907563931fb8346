-- The numbers of JSON (RFC 8259, "Numbers"), as whole texts.
use Rattle.std.specs.Prelude.{◌≡◌, ◌≢◌, ℕ, ◌<◌, true, ◌⊎◌, List, [], ◌++◌, codes}
use Rattle.std.specs.List.{list_all}
use Rattle.expr_reader.specs.Bytes.{is_digit}
use Rattle.expr_reader.specs.Number.{greatest, digits_value}

-- One digit or more.
abbrev pub IsDigits : List ℕ → Type 0
IsDigits bs = (bs ≢ []) × (list_all is_digit bs ≡ true)

-- 0, or digits of which the first is not 0.
abbrev pub IsInteger : List ℕ → Type 0
IsInteger bs = (bs ≡ codes "0") ⊎ (IsDigits bs × ((rest : List ℕ) → bs ≢ codes "0" ++ rest))

-- A point and digits.
pub record IsFraction (bs : List ℕ) : Type 0 where
  pub digits : List ℕ
  pub same : bs ≡ codes "." ++ digits
  pub are_digits : IsDigits digits

-- e or E, a sign or nothing, and digits.
pub record IsExponent (bs : List ℕ) : Type 0 where
  pub mark : List ℕ
  pub sign : List ℕ
  pub digits : List ℕ
  pub same : bs ≡ mark ++ (sign ++ digits)
  pub marked : (mark ≡ codes "e") ⊎ (mark ≡ codes "E")
  pub signed : (sign ≡ []) ⊎ ((sign ≡ codes "+") ⊎ (sign ≡ codes "-"))
  pub are_digits : IsDigits digits

-- A number: a minus or nothing, an integer, a fraction or nothing, an exponent or nothing.
pub record IsNumber (text : List ℕ) : Type 0 where
  pub minus : List ℕ
  pub integer : List ℕ
  pub fraction : List ℕ
  pub exponent : List ℕ
  pub same : text ≡ minus ++ (integer ++ (fraction ++ exponent))
  pub signed : (minus ≡ []) ⊎ (minus ≡ codes "-")
  pub is_integer : IsInteger integer
  pub is_fraction : (fraction ≡ []) ⊎ IsFraction fraction
  pub is_exponent : (exponent ≡ []) ⊎ IsExponent exponent

-- A number with a fraction or an exponent, or one whose integer is out of range.
abbrev pub IsNotWhole : List ℕ → Type 0
IsNotWhole text =
    (n : IsNumber text) × ((n.fraction ≢ []) ⊎ ((n.exponent ≢ []) ⊎ (greatest < digits_value 10 0 n.integer)))
