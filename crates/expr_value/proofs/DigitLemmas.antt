-- Decimal digits, one more at a time.
use Rattle.std.proofs.Common.{◌≡◌, ℕ, zero, suc, ◌+◌, ◌-◌, ◌*◌, ◌<◌, ◌≤◌, Bool, true, false, if◌then◌else◌, ◌&&◌, not, ◌==◌, nat_le, Some, Ok, Err, List, [], ◌∷◌, length, get_or, drop, refl, ap, ◌∙◌, arith}
use Rattle.std.proofs.Math.Seq.{drop-cons}
use Rattle.std.proofs.lemmas.Bool.Decides.{nat_tests}
use Rattle.std.specs.Char.{digit_value}
use Rattle.std.specs.List.{list_all}
use Rattle.expr_reader.specs.Bytes.{is_digit}
use Rattle.expr_reader.specs.Number.{greatest, digits_value}
use Rattle.expr_value.specs.Number.{is_integer, in_range}
use Rattle.flow_model.specs.declared.reply.ValueFault.TheVariants.{NotWhole}

first_of_both : (t u : Bool) → (t && u) ≡ true → t ≡ true
first_of_both true u h = refl
first_of_both false u h = h

second_of_both : (t u : Bool) → (t && u) ≡ true → u ≡ true
second_of_both true u h = h
second_of_both false u h = absurd (cc)

-- Each of the bytes is a digit.
digit_among : (bs : List ℕ) (i : ℕ) → list_all is_digit bs ≡ true → i < length bs → is_digit (get_or bs i 0) ≡ true
digit_among [] i h inside = absurd (omega arith)
digit_among (b ∷ bs) zero h inside = first_of_both (is_digit b) (list_all is_digit bs) h
digit_among (b ∷ bs) (suc i) h inside = digit_among bs i (second_of_both (is_digit b) (list_all is_digit bs) h) (omega arith)

pub digit_low : (bs : List ℕ) (i : ℕ) → list_all is_digit bs ≡ true → i < length bs → 48 ≤ get_or bs i 0
digit_low bs i h inside = let d = digit_among bs i h inside in grind (arith, nat_tests)

digit_high : (bs : List ℕ) (i : ℕ) → list_all is_digit bs ≡ true → i < length bs → get_or bs i 0 ≤ 57
digit_high bs i h inside = let d = digit_among bs i h inside in grind (arith, nat_tests)

-- More digits make no smaller number.
digits_grow : (n : ℕ) (bs : List ℕ) → n ≤ digits_value 10 n bs
digits_grow n [] = omega arith
digits_grow n (b ∷ bs) = omega (arith, digits_grow (n * 10 + digit_value b) bs)

-- A number above the range stays above it.
pub value_over : (n : ℕ) (bs : List ℕ) → greatest < n → in_range (digits_value 10 n bs) ≡ Err NotWhole
value_over n bs over =
    let above : greatest < digits_value 10 n bs = omega (arith, digits_grow n bs) in
    let test : nat_le (digits_value 10 n bs) greatest ≡ false = grind (arith, nat_tests) in
    ap (λ (v : Bool). if v then Ok (Some (digits_value 10 n bs)) else Err NotWhole) test

pub digit_is : (b : ℕ) → 48 ≤ b → b ≤ 57 → digit_value b ≡ b - 48
digit_is b low high = grind (arith, nat_tests)

-- The next digit.
pub value_step : (n : ℕ) (bs : List ℕ) (i : ℕ) → list_all is_digit bs ≡ true → i < length bs → in_range (digits_value 10 n (drop i bs)) ≡ in_range (digits_value 10 (n * 10 + (get_or bs i 0 - 48)) (drop (i + 1) bs))
value_step n bs i all inside =
    let more : suc i ≡ i + 1 = omega arith in
    let value : digit_value (get_or bs i 0) ≡ get_or bs i 0 - 48 = digit_is (get_or bs i 0) (digit_low bs i all inside) (digit_high bs i all inside) in
    ap (λ (x : List ℕ). in_range (digits_value 10 n x)) (drop-cons bs i 0 inside)
    ∙ ap (λ (k : ℕ). in_range (digits_value 10 (n * 10 + k) (drop (suc i) bs))) value
    ∙ ap (λ (k : ℕ). in_range (digits_value 10 (n * 10 + (get_or bs i 0 - 48)) (drop k bs))) more

pub value_end : (n : ℕ) → n ≤ greatest → in_range (digits_value 10 n []) ≡ Ok (Some n)
value_end n h =
    let test : nat_le n greatest ≡ true = grind (arith, nat_tests) in
    ap (λ (v : Bool). if v then Ok (Some n) else Err NotWhole) test

-- A number's integer is digits.
pub integer_digits : (bs : List ℕ) → is_integer bs ≡ true → list_all is_digit bs ≡ true
integer_digits [] h = refl
integer_digits (b ∷ []) h = grind (arith, nat_tests)
integer_digits (b ∷ c ∷ bs) h = second_of_both (not (b == 48)) (list_all is_digit (b ∷ c ∷ bs)) h
