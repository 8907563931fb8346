-- Digits with no leading zero are the decimal of their value.
use Rattle.std.proofs.Common.{◌≡◌, ℕ, ◌+◌, ◌*◌, ◌/◌, ◌%◌, ◌<◌, ◌≤◌, List, [], ◌∷◌, ◌++◌, ◌-◌, length, get_or, take, drop, decimal, sym, ap, ◌∙◌, append_assoc, arith}
use Rattle.std.proofs.lemmas.Fmt.{decimal_digit, decimal_step}
use Rattle.std.proofs.lemmas.List.{take_all}

-- a text is its first byte and the others
first-byte : (text : List ℕ) (x : ℕ) → 0 < length text → text ≡ get_or text 0 x ∷ take (length text - 1) (drop 1 text)
first-byte [] x some = absurd (omega arith)
first-byte (b ∷ text) x some = ap (λ (bs : List ℕ). b ∷ bs) (sym (take_all (length (b ∷ text) - 1) text (omega arith)))

-- the first digit, and what follows it
first-digit : (b digit : ℕ) (rest : List ℕ) → b ≡ 48 + digit → digit ≤ 9 → b ∷ rest ≡ decimal digit ++ rest
first-digit b digit rest is low = (λ i. is i ∷ rest) ∙ ap (λ (t : List ℕ). t ++ rest) (sym (decimal_digit digit (omega arith)))

-- one digit more, and what follows it
next-digit : (number b digit : ℕ) (rest : List ℕ) → b ≡ 48 + digit → digit ≤ 9 → 0 < number → number < 100000000000000
    → decimal number ++ b ∷ rest ≡ decimal (number * 10 + digit) ++ rest
next-digit number b digit rest is low some few =
    let m = number * 10 + digit in
    let front : m / 10 ≡ number = omega arith in
    let last : 48 + m % 10 ≡ b = omega arith in
    let more : decimal number ++ b ∷ [] ≡ decimal m = (λ i. decimal (sym front i) ++ sym last i ∷ []) ∙ sym (decimal_step m (omega arith) (omega arith)) in
    sym (append_assoc (decimal number) (b ∷ []) rest) ∙ ap (λ (t : List ℕ). t ++ rest) more

-- a text that begins with a digit
pub digit-begins : (text : List ℕ) (digit x : ℕ) → 0 < length text → get_or text 0 x ≡ 48 + digit → digit ≤ 9
    → text ≡ decimal digit ++ take (length text - 1) (drop 1 text)
digit-begins text digit x some is low = first-byte text x some ∙ first-digit (get_or text 0 x) digit (take (length text - 1) (drop 1 text)) is low

-- digits that a text goes on with
pub digit-goes-on : (number : ℕ) (text : List ℕ) (digit x : ℕ) → 0 < length text → get_or text 0 x ≡ 48 + digit → digit ≤ 9 → 0 < number → number < 100000000000000
    → decimal number ++ text ≡ decimal (number * 10 + digit) ++ take (length text - 1) (drop 1 text)
digit-goes-on number text digit x some is low more few =
    ap (λ (t : List ℕ). decimal number ++ t) (first-byte text x some) ∙ next-digit number (get_or text 0 x) digit (take (length text - 1) (drop 1 text)) is low more few
