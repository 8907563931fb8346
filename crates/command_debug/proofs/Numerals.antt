-- Numbers that digits write, one digit more at a time.
use Rattle.std.proofs.Common.{◌≡◌, ℕ, suc, ◌+◌, ◌*◌, ◌<◌, ◌≤◌, List, [], ◌∷◌, length, get_or, drop, min, ap, sym, ◌∙◌, subst, arith, drop-cons}
use Rattle.std.specs.Char.{digit_value}
use Rattle.std.specs.Str.Parse.{AllDigits, digits_value_after}

-- two numbers that count as one go on as one
capped_step : (most a b d : ℕ) → min a most ≡ min b most → min (a * 10 + d) most ≡ min (b * 10 + d) most
capped_step most a b d h = omega arith

capped_on : (most a b : ℕ) (ds : List ℕ) → min a most ≡ min b most → min (digits_value_after 10 a ds) most ≡ min (digits_value_after 10 b ds) most
capped_on most a b [] h = h
capped_on most a b (d ∷ ds) h = capped_on most (a * 10 + digit_value d) (b * 10 + digit_value d) ds (capped_step most a b (digit_value d) h)

capped_next : (most n d : ℕ) → min (min (min (n * 10) most + d) most) most ≡ min (n * 10 + d) most
capped_next most n d = omega arith

at_place : (ds : List ℕ) (i : ℕ) → i < length ds → drop i ds ≡ get_or ds i 0 ∷ drop (i + 1) ds
at_place ds i inside = let more : suc i ≡ i + 1 = omega arith in drop-cons ds i 0 inside ∙ ap (λ (k : ℕ). get_or ds i 0 ∷ drop k ds) more

-- one digit more
pub digit_more : (most n : ℕ) (ds : List ℕ) (i : ℕ) → i < length ds
    → min (digits_value_after 10 (min (min (n * 10) most + digit_value (get_or ds i 0)) most) (drop (i + 1) ds)) most ≡ min (digits_value_after 10 n (drop i ds)) most
digit_more most n ds i inside =
    let d = digit_value (get_or ds i 0) in
    capped_on most (min (min (n * 10) most + d) most) (n * 10 + d) (drop (i + 1) ds) (capped_next most n d)
    ∙ sym (ap (λ (l : List ℕ). min (digits_value_after 10 n l) most) (at_place ds i inside))

-- what is left are digits where the next byte is one and the others are, and only there
pub digits_from : (ds : List ℕ) (i : ℕ) → i < length ds → AllDigits 10 (drop i ds) → (digit_value (get_or ds i 0) < 10) × AllDigits 10 (drop (i + 1) ds)
digits_from ds i inside h = subst (λ (l : List ℕ). AllDigits 10 l) (at_place ds i inside) h

pub digits_onto : (ds : List ℕ) (i : ℕ) → i < length ds → digit_value (get_or ds i 0) < 10 → AllDigits 10 (drop (i + 1) ds) → AllDigits 10 (drop i ds)
digits_onto ds i inside first others = subst (λ (l : List ℕ). AllDigits 10 l) (sym (at_place ds i inside)) (first, others)

-- a number that is within the bound counts as itself
pub capped : (most n : ℕ) → n ≤ most → n ≡ min n most
capped most n h = omega arith
