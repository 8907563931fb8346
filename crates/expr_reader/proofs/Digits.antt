-- Digits, one more at a time.
use Rattle.std.proofs.Common.{◌≡◌, ℕ, suc, ◌+◌, ◌*◌, ◌<◌, ◌≤◌, Bool, true, false, if◌then◌else◌, ◌&&◌, nat_lt, nat_le, Some, None, List, [], ◌∷◌, length, get_or, drop, refl, ap, ◌∙◌, arith}
use Rattle.std.proofs.Math.Nat.{mul-le-mul_left}
use Rattle.std.proofs.Math.Seq.{drop-cons}
use Rattle.std.proofs.lemmas.Bool.{lt-ltb}
use Rattle.std.proofs.lemmas.Bool.Decides.{nat_tests}
use Rattle.std.specs.Char.{digit_value}
use Rattle.std.specs.List.{list_all}
use Rattle.expr_reader.specs.Number.{greatest, digits_value, is_digit_in, digits_from}

-- A number in range times a base fits.
pub product_fits : (n base : ℕ) → n ≤ greatest → base ≤ 36 → n * base ≤ 324259173170675676
product_fits n base low high = omega (arith, mul-le-mul_left n high)

-- More digits make no smaller number.
digits_grow : (base n : ℕ) (bs : List ℕ) → 0 < base → n ≤ digits_value base n bs
digits_grow base n [] h = omega arith
digits_grow base n (b ∷ bs) h =
    let one : 1 ≤ base = omega arith in
    omega (arith, mul-le-mul_left n one, digits_grow base (n * base + digit_value b) bs h)

digits_by : (t : Bool) (base n : ℕ) (bs : List ℕ) → t ≡ true → (if t && list_all (is_digit_in base) bs && nat_le (digits_value base n bs) greatest then Some (digits_value base n bs) else None) ≡ digits_from base n bs
digits_by true base n bs h = refl
digits_by false base n bs h = cc

not_by : (t u v : Bool) (n : ℕ) → t ≡ false → (if t && u && v then Some n else None) ≡ None
not_by true u v n h = cc
not_by false true v n h = refl
not_by false false v n h = refl

over_by : (t u : Bool) (n : ℕ) → u ≡ false → (if t && u then Some n else None) ≡ None
over_by true u n h = ap (λ (v : Bool). if v then Some n else None) h
over_by false u n h = refl

-- A number above the range stays above it.
pub digits_over : (base n : ℕ) (bs : List ℕ) → 0 < base → greatest < n → digits_from base n bs ≡ None
digits_over base n bs h over =
    let above : greatest < digits_value base n bs = omega (arith, digits_grow base n bs h) in
    let test : nat_le (digits_value base n bs) greatest ≡ false = grind (arith, nat_tests) in
    over_by (list_all (is_digit_in base) bs) (nat_le (digits_value base n bs) greatest) (digits_value base n bs) test

-- The next digit.
pub digits_step : (base n : ℕ) (bs : List ℕ) (i : ℕ) → i < length bs → digit_value (get_or bs i 0) < base → digits_from base n (drop i bs) ≡ digits_from base (n * base + digit_value (get_or bs i 0)) (drop (i + 1) bs)
digits_step base n bs i inside h =
    let more : suc i ≡ i + 1 = omega arith in
    ap (digits_from base n) (drop-cons bs i 0 inside)
    ∙ digits_by (is_digit_in base (get_or bs i 0)) base (n * base + digit_value (get_or bs i 0)) (drop (suc i) bs) (lt-ltb (digit_value (get_or bs i 0)) base h)
    ∙ ap (λ (k : ℕ). digits_from base (n * base + digit_value (get_or bs i 0)) (drop k bs)) more

-- What is no digit.
pub digits_stop : (base n : ℕ) (bs : List ℕ) (i : ℕ) → i < length bs → base ≤ digit_value (get_or bs i 0) → digits_from base n (drop i bs) ≡ None
digits_stop base n bs i inside h =
    let test : nat_lt (digit_value (get_or bs i 0)) base ≡ false = grind (arith, nat_tests) in
    ap (digits_from base n) (drop-cons bs i 0 inside)
    ∙ not_by (is_digit_in base (get_or bs i 0)) (list_all (is_digit_in base) (drop (suc i) bs)) (nat_le (digits_value base (n * base + digit_value (get_or bs i 0)) (drop (suc i) bs)) greatest) (digits_value base (n * base + digit_value (get_or bs i 0)) (drop (suc i) bs)) test

pub digits_end : (base n : ℕ) → n ≤ greatest → digits_from base n [] ≡ Some n
digits_end base n h =
    let test : nat_le n greatest ≡ true = grind (arith, nat_tests) in
    ap (λ (v : Bool). if v then Some n else None) test
