-- The reader of numbers against the grammar of JSON.
use Rattle.std.proofs.Common.{◌≡◌, ◌≢◌, ℕ, ℤ, pos, negsuc, zero, suc, ◌+◌, ◌-◌, ◌*◌, ◌^◌, ◌<◌, ◌≤◌, ◌⊎◌, inl, inr, Bool, true, false, cond, not, ◌&&◌, ◌||◌, ◌==◌, nat_le, Option, Some, None, Result, Ok, Err, List, [], ◌∷◌, ◌++◌, length, get_or, take, drop, append-nil, decimal, refl, sym, ap, ◌∙◌, subst, take_at, arith, rules}
use Rattle.std.specs.Prelude.{◌↔◌, codes}
use Rattle.std.proofs.lemmas.Bool.{cond-true, cond-false, eqb-true, and_parts, and_from, or_cases, cases_Bool}
use Rattle.std.proofs.lemmas.Bool.Decides.{nat_tests}
use Rattle.std.proofs.lemmas.Fmt.{decimal_digit, digits_decimal, digits_value-decimal, first_decimal, decimal_nonempty}
use Rattle.std.proofs.lemmas.List.{drop_at, take-append-drop}
use Rattle.std.proofs.lemmas.Str.Parse.{IsNumeralModel, numerals_by_fold}
use Rattle.std.specs.Fmt.{signed_decimal}
use Rattle.std.specs.Int.{IsInRange}
use Rattle.std.specs.List.{list_all, prefix_len}
use Rattle.expr_reader.specs.Bytes.{is_digit}
use Rattle.expr_reader.specs.Number.{greatest, digits_value, negative}
use Rattle.expr_value.proofs.DigitLemmas.{digit_is}
use Rattle.expr_value.proofs.Runs.{all_parts}
use Rattle.expr_value.specs.JsonNumber.{IsDigits, IsInteger, IsFraction, IsExponent, IsNumber, IsNotWhole}
use Rattle.expr_value.specs.Number.{is_digits, is_integer, is_power, is_exponent, is_part, is_tail, in_range, number_of_parts, unsigned_number, with_sign, number_of_text}
use Rattle.flow_model.specs.Rules.{is_whole}
use Rattle.flow_model.specs.declared.reply.ValueFault.{ValueFault}
use Rattle.flow_model.specs.declared.reply.ValueFault.TheVariants.{NotWhole}

-- ---- digits

cons_some : (b : ℕ) (bs : List ℕ) → b ∷ bs ≢ []
cons_some b bs e = cc

digits_test : (bs : List ℕ) → IsDigits bs → is_digits bs ≡ true
digits_test [] h = absurd (h.0 refl)
digits_test (b ∷ bs) h = h.1

digits_fact : (bs : List ℕ) → is_digits bs ≡ true → IsDigits bs
digits_fact [] h = absurd (cc)
digits_fact (b ∷ bs) h = (cons_some b bs, h)

-- Digits before what begins with none are the digits at the front.
front_length : (w x : List ℕ) → list_all is_digit w ≡ true → prefix_len is_digit x ≡ 0 → prefix_len is_digit (w ++ x) ≡ length w
front_length [] x all stops = stops
front_length (b ∷ w) x all stops =
    let parts = all_parts is_digit b w all in
    cond-true (is_digit b) (1 + prefix_len is_digit (w ++ x)) 0 parts.0 ∙ omega (arith, front_length w x parts.1 stops)

front_is : (w x : List ℕ) → list_all is_digit w ≡ true → prefix_len is_digit x ≡ 0 → take (prefix_len is_digit (w ++ x)) (w ++ x) ≡ w
front_is w x all stops = take_at w x (prefix_len is_digit (w ++ x)) (sym (front_length w x all stops))

back_is : (w x : List ℕ) → list_all is_digit w ≡ true → prefix_len is_digit x ≡ 0 → drop (prefix_len is_digit (w ++ x)) (w ++ x) ≡ x
back_is w x all stops = drop_at w x (prefix_len is_digit (w ++ x)) (sym (front_length w x all stops))

-- ---- the integer

no_zero : (b : ℕ) (bs : List ℕ) → ((rest : List ℕ) → b ∷ bs ≢ codes "0" ++ rest) → not (b == 48) ≡ true
no_zero b bs other = elim (cases_Bool (b == 48)) [ inl e ↦ absurd (other bs (ap (λ (c : ℕ). c ∷ bs) (eqb-true b 48 e))) | inr e ↦ ap not e ]

long_integer : (bs : List ℕ) → IsDigits bs → ((rest : List ℕ) → bs ≢ codes "0" ++ rest) → is_integer bs ≡ true
long_integer [] h other = absurd (h.0 refl)
long_integer (b ∷ []) h other = (all_parts is_digit b [] h.1).0
long_integer (b ∷ c ∷ bs) h other = and_from (not (b == 48)) (list_all is_digit (b ∷ c ∷ bs)) (no_zero b (c ∷ bs) other) h.1

integer_test : (bs : List ℕ) → IsInteger bs → is_integer bs ≡ true
integer_test bs (inl zero_is) = ap is_integer zero_is
integer_test bs (inr (h, other)) = long_integer bs h other

other_first : (b : ℕ) (bs rest : List ℕ) → (b == 48) ≡ false → b ∷ bs ≢ codes "0" ++ rest
other_first b bs rest e same = let first : b ≡ 48 = cc in grind (arith, nat_tests)

one_digit : (b : ℕ) → is_digit b ≡ true → list_all is_digit (b ∷ []) ≡ true
one_digit b h = and_from (is_digit b) true h refl

integer_fact : (bs : List ℕ) → is_integer bs ≡ true → IsInteger bs
integer_fact [] h = absurd (cc)
integer_fact (b ∷ []) h =
    elim (cases_Bool (b == 48)) [
      | inl e ↦ inl (ap (λ (c : ℕ). c ∷ []) (eqb-true b 48 e))
      | inr e ↦ inr ((cons_some b [], one_digit b h), λ rest. other_first b [] rest e)
    ]
integer_fact (b ∷ c ∷ bs) h =
    let parts = and_parts (not (b == 48)) (list_all is_digit (b ∷ c ∷ bs)) h in
    inr ((cons_some b (c ∷ bs), parts.1), λ rest. other_first b (c ∷ bs) rest (grind (arith, nat_tests)))

integer_digits : (bs : List ℕ) → IsInteger bs → list_all is_digit bs ≡ true
integer_digits bs (inl zero_is) = ap (list_all is_digit) zero_is
integer_digits bs (inr (h, other)) = h.1

-- ---- the exponent

plain_power : (ds : List ℕ) → IsDigits ds → is_power ds ≡ true
plain_power [] h = absurd (h.0 refl)
plain_power (d ∷ ds) h =
    let first = (all_parts is_digit d ds h.1).0 in
    let unsigned : ((d == 43) || (d == 45)) ≡ false = grind (arith, nat_tests) in
    cond-false ((d == 43) || (d == 45)) (is_digits ds) (is_digits (d ∷ ds)) unsigned ∙ h.1

power_test : (sign ds : List ℕ) → (sign ≡ []) ⊎ ((sign ≡ codes "+") ⊎ (sign ≡ codes "-")) → IsDigits ds → is_power (sign ++ ds) ≡ true
power_test sign ds (inl none) h = ap (λ (s : List ℕ). is_power (s ++ ds)) none ∙ plain_power ds h
power_test sign ds (inr (inl plus)) h = ap (λ (s : List ℕ). is_power (s ++ ds)) plus ∙ digits_test ds h
power_test sign ds (inr (inr minus)) h = ap (λ (s : List ℕ). is_power (s ++ ds)) minus ∙ digits_test ds h

exponent_test : (bs : List ℕ) → IsExponent bs → is_exponent bs ≡ true
exponent_test bs h = go h.marked
  where
    power : is_power (h.sign ++ h.digits) ≡ true
    power = power_test h.sign h.digits h.signed h.are_digits

    go : (h.mark ≡ codes "e") ⊎ (h.mark ≡ codes "E") → is_exponent bs ≡ true
    go (inl e) = ap is_exponent (h.same ∙ ap (λ (m : List ℕ). m ++ (h.sign ++ h.digits)) e) ∙ power
    go (inr e) = ap is_exponent (h.same ∙ ap (λ (m : List ℕ). m ++ (h.sign ++ h.digits)) e) ∙ power

-- A sign or nothing before digits.
record Power (bs : List ℕ) : Type 0 where
  sign : List ℕ
  digits : List ℕ
  same : bs ≡ sign ++ digits
  signed : (sign ≡ []) ⊎ ((sign ≡ codes "+") ⊎ (sign ≡ codes "-"))
  are_digits : IsDigits digits

signed_power : (b : ℕ) (bs : List ℕ) → ((b == 43) ≡ true) ⊎ ((b == 45) ≡ true) → is_digits bs ≡ true → Power (b ∷ bs)
signed_power b bs (inl plus) h = record { sign = codes "+"; digits = bs; same = ap (λ (c : ℕ). c ∷ bs) (eqb-true b 43 plus); signed = inr (inl refl); are_digits = digits_fact bs h }
signed_power b bs (inr minus) h = record { sign = codes "-"; digits = bs; same = ap (λ (c : ℕ). c ∷ bs) (eqb-true b 45 minus); signed = inr (inr refl); are_digits = digits_fact bs h }

power_by : (b : ℕ) (bs : List ℕ) (t : Bool) → ((b == 43) || (b == 45)) ≡ t → cond t (is_digits bs) (is_digits (b ∷ bs)) ≡ true → Power (b ∷ bs)
power_by b bs true test h = signed_power b bs (or_cases (b == 43) (b == 45) test) h
power_by b bs false test h = record { sign = []; digits = b ∷ bs; same = refl; signed = inl refl; are_digits = digits_fact (b ∷ bs) h }

power_fact : (bs : List ℕ) → is_power bs ≡ true → Power bs
power_fact [] h = absurd (cc)
power_fact (b ∷ bs) h = power_by b bs ((b == 43) || (b == 45)) refl h

marked_exponent : (b : ℕ) (bs : List ℕ) → ((b == 101) ≡ true) ⊎ ((b == 69) ≡ true) → Power bs → IsExponent (b ∷ bs)
marked_exponent b bs (inl small) p = record { mark = codes "e"; sign = p.sign; digits = p.digits; same = ap (λ (c : ℕ). c ∷ bs) (eqb-true b 101 small) ∙ ap (λ (cs : List ℕ). 101 ∷ cs) p.same; marked = inl refl; signed = p.signed; are_digits = p.are_digits }
marked_exponent b bs (inr large) p = record { mark = codes "E"; sign = p.sign; digits = p.digits; same = ap (λ (c : ℕ). c ∷ bs) (eqb-true b 69 large) ∙ ap (λ (cs : List ℕ). 69 ∷ cs) p.same; marked = inr refl; signed = p.signed; are_digits = p.are_digits }

exponent_fact : (bs : List ℕ) → is_exponent bs ≡ true → IsExponent bs
exponent_fact [] h = absurd (cc)
exponent_fact (b ∷ bs) h =
    let parts = and_parts ((b == 101) || (b == 69)) (is_power bs) h in
    marked_exponent b bs (or_cases (b == 101) (b == 69) parts.0) (power_fact bs parts.1)

-- ---- a fraction, an exponent, or both

-- An exponent begins with no digit, and is no fraction.
abbrev Begins : List ℕ → Type 0
Begins bs = (prefix_len is_digit bs ≡ 0) × (is_tail bs ≡ is_exponent bs)

begins_as : (mark rest : List ℕ) → (mark ≡ codes "e") ⊎ (mark ≡ codes "E") → Begins (mark ++ rest)
begins_as mark rest (inl e) = subst (λ (m : List ℕ). Begins (m ++ rest)) (sym e) (refl, refl)
begins_as mark rest (inr e) = subst (λ (m : List ℕ). Begins (m ++ rest)) (sym e) (refl, refl)

exponent_begins : (bs : List ℕ) → IsExponent bs → Begins bs
exponent_begins bs h = subst Begins (sym h.same) (begins_as h.mark (h.sign ++ h.digits) h.marked)

no_exponent : (bs : List ℕ) → (bs ≡ []) ⊎ IsExponent bs → prefix_len is_digit bs ≡ 0
no_exponent bs (inl none) = ap (prefix_len is_digit) none
no_exponent bs (inr h) = (exponent_begins bs h).0

part_with : (ds bs : List ℕ) → is_digits ds ≡ true → is_exponent bs ≡ true → is_part ds bs ≡ true
part_with ds [] h e = h
part_with ds (b ∷ bs) h e = and_from (is_digits ds) (is_exponent (b ∷ bs)) h e

part_test : (ds bs : List ℕ) → IsDigits ds → (bs ≡ []) ⊎ IsExponent bs → is_part ds bs ≡ true
part_test ds bs h (inl none) = ap (is_part ds) none ∙ digits_test ds h
part_test ds bs h (inr e) = part_with ds bs (digits_test ds h) (exponent_test bs e)

exponent_tail : (bs : List ℕ) → bs ≢ [] → (bs ≡ []) ⊎ IsExponent bs → is_tail bs ≡ true
exponent_tail bs some (inl none) = absurd (some none)
exponent_tail bs some (inr e) = (exponent_begins bs e).1 ∙ exponent_test bs e

fraction_tail : (ds bs : List ℕ) → IsDigits ds → (bs ≡ []) ⊎ IsExponent bs → is_tail (codes "." ++ (ds ++ bs)) ≡ true
fraction_tail ds bs h e =
    let stops = no_exponent bs e in
    ap (λ (front : List ℕ). is_part front (drop (prefix_len is_digit (ds ++ bs)) (ds ++ bs))) (front_is ds bs h.1 stops)
    ∙ ap (is_part ds) (back_is ds bs h.1 stops)
    ∙ part_test ds bs h e

tail_test : (f e : List ℕ) → (f ≡ []) ⊎ IsFraction f → (e ≡ []) ⊎ IsExponent e → f ++ e ≢ [] → is_tail (f ++ e) ≡ true
tail_test f e (inl none) power some = ap (λ (w : List ℕ). is_tail (w ++ e)) none ∙ exponent_tail e (λ empty. some (ap (λ (w : List ℕ). w ++ e) none ∙ empty)) power
tail_test f e (inr h) power some = ap (λ (w : List ℕ). is_tail (w ++ e)) h.same ∙ fraction_tail h.digits e h.are_digits power

-- What follows an integer.
record Tail (bs : List ℕ) : Type 0 where
  fraction : List ℕ
  exponent : List ℕ
  same : bs ≡ fraction ++ exponent
  is_fraction : (fraction ≡ []) ⊎ IsFraction fraction
  is_exponent : (exponent ≡ []) ⊎ IsExponent exponent

part_fact : (ds bs : List ℕ) → is_part ds bs ≡ true → IsDigits ds × ((bs ≡ []) ⊎ IsExponent bs)
part_fact ds [] h = (digits_fact ds h, inl refl)
part_fact ds (b ∷ bs) h = let parts = and_parts (is_digits ds) (is_exponent (b ∷ bs)) h in (digits_fact ds parts.0, inr (exponent_fact (b ∷ bs) parts.1))

pointed : (b : ℕ) (bs : List ℕ) → (b == 46) ≡ true → is_part (take (prefix_len is_digit bs) bs) (drop (prefix_len is_digit bs) bs) ≡ true → Tail (b ∷ bs)
pointed b bs point h =
    let ds = take (prefix_len is_digit bs) bs in
    let rest = drop (prefix_len is_digit bs) bs in
    let parts = part_fact ds rest h in
    record {
      fraction = codes "." ++ ds;
      exponent = rest;
      same = ap (λ (c : ℕ). c ∷ bs) (eqb-true b 46 point) ∙ ap (λ (w : List ℕ). 46 ∷ w) (sym (take-append-drop (prefix_len is_digit bs) bs));
      is_fraction = inr (record { digits = ds; same = refl; are_digits = parts.0 });
      is_exponent = parts.1;
    }

tail_by : (b : ℕ) (bs : List ℕ) (t : Bool) → (b == 46) ≡ t → cond t (is_part (take (prefix_len is_digit bs) bs) (drop (prefix_len is_digit bs) bs)) (is_exponent (b ∷ bs)) ≡ true → Tail (b ∷ bs)
tail_by b bs true point h = pointed b bs point h
tail_by b bs false point h = record { fraction = []; exponent = b ∷ bs; same = refl; is_fraction = inl refl; is_exponent = inr (exponent_fact (b ∷ bs) h) }

tail_fact : (bs : List ℕ) → is_tail bs ≡ true → Tail bs
tail_fact [] h = absurd (cc)
tail_fact (b ∷ bs) h = tail_by b bs (b == 46) refl h

-- ---- a number without a sign

-- What an integer's digits and what follows them come to.
abbrev meaning : List ℕ → List ℕ → Result (Option ℕ) ValueFault
meaning ds [] = in_range (digits_value 10 0 ds)
meaning ds (b ∷ bs) = Err NotWhole

parts_meaning : (ds rest : List ℕ) → is_integer ds ≡ true → (rest ≢ [] → is_tail rest ≡ true) → number_of_parts ds rest ≡ meaning ds rest
parts_meaning ds [] h tail = cond-true (is_integer ds) (in_range (digits_value 10 0 ds)) (Ok None) h
parts_meaning ds (b ∷ bs) h tail = cond-true (is_integer ds && is_tail (b ∷ bs)) (Err NotWhole) (Ok None) (and_from (is_integer ds) (is_tail (b ∷ bs)) h (tail (cons_some b bs)))

tail_stops : (f e : List ℕ) → (f ≡ []) ⊎ IsFraction f → (e ≡ []) ⊎ IsExponent e → prefix_len is_digit (f ++ e) ≡ 0
tail_stops f e (inl none) power = ap (λ (w : List ℕ). prefix_len is_digit (w ++ e)) none ∙ no_exponent e power
tail_stops f e (inr h) power = ap (λ (w : List ℕ). prefix_len is_digit (w ++ e)) h.same

unsigned_meaning : (ds f e : List ℕ) → IsInteger ds → (f ≡ []) ⊎ IsFraction f → (e ≡ []) ⊎ IsExponent e → unsigned_number (ds ++ (f ++ e)) ≡ meaning ds (f ++ e)
unsigned_meaning ds f e h after power =
    let rest = f ++ e in
    let stops = tail_stops f e after power in
    let all = integer_digits ds h in
    ap (λ (front : List ℕ). number_of_parts front (drop (prefix_len is_digit (ds ++ rest)) (ds ++ rest))) (front_is ds rest all stops)
    ∙ ap (number_of_parts ds) (back_is ds rest all stops)
    ∙ parts_meaning ds rest (integer_test ds h) (tail_test f e after power)

-- Digits of an integer and what may follow it.
record Unsigned (bs : List ℕ) : Type 0 where
  integer : List ℕ
  fraction : List ℕ
  exponent : List ℕ
  same : bs ≡ integer ++ (fraction ++ exponent)
  is_integer : IsInteger integer
  is_fraction : (fraction ≡ []) ⊎ IsFraction fraction
  is_exponent : (exponent ≡ []) ⊎ IsExponent exponent

parts_cases : (ds rest : List ℕ) → (number_of_parts ds rest ≡ Ok None) ⊎ Unsigned (ds ++ rest)
parts_cases ds [] =
    elim (cases_Bool (is_integer ds)) [
      | inl e ↦ inr (record { integer = ds; fraction = []; exponent = []; same = refl; is_integer = integer_fact ds e; is_fraction = inl refl; is_exponent = inl refl })
      | inr e ↦ inl (cond-false (is_integer ds) (in_range (digits_value 10 0 ds)) (Ok None) e)
    ]
parts_cases ds (b ∷ bs) =
    elim (cases_Bool (is_integer ds && is_tail (b ∷ bs))) [
      | inl e ↦
          (let both = and_parts (is_integer ds) (is_tail (b ∷ bs)) e in
          let t = tail_fact (b ∷ bs) both.1 in
          inr (record { integer = ds; fraction = t.fraction; exponent = t.exponent; same = ap (λ (w : List ℕ). ds ++ w) t.same; is_integer = integer_fact ds both.0; is_fraction = t.is_fraction; is_exponent = t.is_exponent }))
      | inr e ↦ inl (cond-false (is_integer ds && is_tail (b ∷ bs)) (Err NotWhole) (Ok None) e)
    ]

unsigned_cases : (bs : List ℕ) → (unsigned_number bs ≡ Ok None) ⊎ Unsigned bs
unsigned_cases bs =
    elim (parts_cases (take (prefix_len is_digit bs) bs) (drop (prefix_len is_digit bs) bs)) [
      | inl e ↦ inl e
      | inr u ↦ inr (subst Unsigned (take-append-drop (prefix_len is_digit bs) bs) u)
    ]

-- ---- a number with its sign

with_sign_by : (b : ℕ) (bs : List ℕ) → is_digit b ≡ true → number_of_text (b ∷ bs) ≡ with_sign pos (unsigned_number (b ∷ bs))
with_sign_by b bs h =
    let plain : (b == 45) ≡ false = grind (arith, nat_tests) in
    cond-false (b == 45) (with_sign negative (unsigned_number bs)) (with_sign pos (unsigned_number (b ∷ bs))) plain

-- A text that begins with an integer has no sign.
digit_first : (ds rest : List ℕ) → IsDigits ds → number_of_text (ds ++ rest) ≡ with_sign pos (unsigned_number (ds ++ rest))
digit_first [] rest h = absurd (h.0 refl)
digit_first (d ∷ ds) rest h = with_sign_by d (ds ++ rest) (all_parts is_digit d ds h.1).0

integer_some : (ds : List ℕ) → IsInteger ds → IsDigits ds
integer_some ds (inl zero_is) = subst IsDigits (sym zero_is) (cons_some 48 [], refl)
integer_some ds (inr (h, other)) = h

-- The value of a number's parts under its sign.
record Signed (n : List ℕ) (ds rest : List ℕ) : Type 0 where
  sign : ℕ → ℤ
  value : number_of_text n ≡ with_sign sign (meaning ds rest)

signed_by : (text minus ds f e : List ℕ) → text ≡ minus ++ (ds ++ (f ++ e)) → (minus ≡ []) ⊎ (minus ≡ codes "-") → IsInteger ds → (f ≡ []) ⊎ IsFraction f → (e ≡ []) ⊎ IsExponent e → Signed text ds (f ++ e)
signed_by text minus ds f e same (inl none) h after power = record {
  sign = pos;
  value = ap number_of_text (same ∙ ap (λ (m : List ℕ). m ++ (ds ++ (f ++ e))) none) ∙ digit_first ds (f ++ e) (integer_some ds h) ∙ ap (with_sign pos) (unsigned_meaning ds f e h after power);
}
signed_by text minus ds f e same (inr sign) h after power = record {
  sign = negative;
  value = ap number_of_text (same ∙ ap (λ (m : List ℕ). m ++ (ds ++ (f ++ e))) sign) ∙ ap (with_sign negative) (unsigned_meaning ds f e h after power);
}

number_meaning : (text : List ℕ) (n : IsNumber text) → Signed text n.integer (n.fraction ++ n.exponent)
number_meaning text n = signed_by text n.minus n.integer n.fraction n.exponent n.same n.signed n.is_integer n.is_fraction n.is_exponent

number_from : (text minus bs : List ℕ) → text ≡ minus ++ bs → (minus ≡ []) ⊎ (minus ≡ codes "-") → Unsigned bs → IsNumber text
number_from text minus bs same signed u = record {
  minus = minus;
  integer = u.integer;
  fraction = u.fraction;
  exponent = u.exponent;
  same = same ∙ ap (λ (w : List ℕ). minus ++ w) u.same;
  signed = signed;
  is_integer = u.is_integer;
  is_fraction = u.is_fraction;
  is_exponent = u.is_exponent;
}

cases_by : (b : ℕ) (bs : List ℕ) (t : Bool) → (b == 45) ≡ t → (cond t (with_sign negative (unsigned_number bs)) (with_sign pos (unsigned_number (b ∷ bs))) ≡ Ok None) ⊎ IsNumber (b ∷ bs)
cases_by b bs true minus =
    elim (unsigned_cases bs) [ inl e ↦ inl (ap (with_sign negative) e) | inr u ↦ inr (number_from (b ∷ bs) (codes "-") bs (ap (λ (c : ℕ). c ∷ bs) (eqb-true b 45 minus)) (inr refl) u) ]
cases_by b bs false minus =
    elim (unsigned_cases (b ∷ bs)) [ inl e ↦ inl (ap (with_sign pos) e) | inr u ↦ inr (number_from (b ∷ bs) [] (b ∷ bs) refl (inl refl) u) ]

-- A text that is not empty is not-a-number, or a number of the grammar.
number_cases : (text : List ℕ) → text ≢ [] → (number_of_text text ≡ Ok None) ⊎ IsNumber text
number_cases [] some = absurd (some refl)
number_cases (b ∷ bs) some = cases_by b bs (b == 45) refl

-- ---- the laws

in_range_some : (sign : ℕ → ℤ) (n : ℕ) (t : Bool) → with_sign sign (cond t (Ok (Some n)) (Err NotWhole)) ≡ Ok None → ⊥
in_range_some sign n true e = cc
in_range_some sign n false e = cc

meaning_some : (sign : ℕ → ℤ) (ds rest : List ℕ) → with_sign sign (meaning ds rest) ≡ Ok None → ⊥
meaning_some sign ds [] e = in_range_some sign (digits_value 10 0 ds) (nat_le (digits_value 10 0 ds) greatest) e
meaning_some sign ds (b ∷ bs) e = cc

no_number_if : (text : List ℕ) → number_of_text text ≡ Ok None → (text ≢ []) × (IsNumber text → ⊥)
no_number_if text h =
    let some : text ≢ [] = λ empty. empty_some (sym (ap number_of_text empty) ∙ h) in
    (some, λ n. let s = number_meaning text n in meaning_some s.sign n.integer (n.fraction ++ n.exponent) (sym s.value ∙ h))
  where
    empty_some : number_of_text [] ≡ Ok None → ⊥
    empty_some e = cc

no_number_by : (text : List ℕ) → (text ≢ []) × (IsNumber text → ⊥) → number_of_text text ≡ Ok None
no_number_by text (some, other) = elim (number_cases text some) [ inl e ↦ e | inr n ↦ absurd (other n) ]

pub other_text_is_no_number : (text : List ℕ) → (number_of_text text ≡ Ok None) ↔ ((text ≢ []) × (IsNumber text → ⊥))
other_text_is_no_number text = (no_number_if text, no_number_by text)

over_by : (sign : ℕ → ℤ) (n : ℕ) (t : Bool) → nat_le n greatest ≡ t → with_sign sign (cond t (Ok (Some n)) (Err NotWhole)) ≡ Err NotWhole → greatest < n
over_by sign n true test e = absurd (cc)
over_by sign n false test e = grind (arith, nat_tests)

over : (sign : ℕ → ℤ) (ds : List ℕ) → with_sign sign (meaning ds []) ≡ Err NotWhole → greatest < digits_value 10 0 ds
over sign ds e = over_by sign (digits_value 10 0 ds) (nat_le (digits_value 10 0 ds) greatest) refl e

fraction_some : (f : List ℕ) → IsFraction f → f ≢ []
fraction_some f h e = cons_some 46 h.digits (sym h.same ∙ e)

marked_some : (mark rest : List ℕ) → (mark ≡ codes "e") ⊎ (mark ≡ codes "E") → mark ++ rest ≢ []
marked_some mark rest (inl e) empty = cons_some 101 rest (sym (ap (λ (m : List ℕ). m ++ rest) e) ∙ empty)
marked_some mark rest (inr e) empty = cons_some 69 rest (sym (ap (λ (m : List ℕ). m ++ rest) e) ∙ empty)

exponent_some : (x : List ℕ) → IsExponent x → x ≢ []
exponent_some x h e = marked_some h.mark (h.sign ++ h.digits) h.marked (sym h.same ∙ e)

why_by : (ds f e : List ℕ) (sign : ℕ → ℤ) → (f ≡ []) ⊎ IsFraction f → (e ≡ []) ⊎ IsExponent e → with_sign sign (meaning ds (f ++ e)) ≡ Err NotWhole → (f ≢ []) ⊎ ((e ≢ []) ⊎ (greatest < digits_value 10 0 ds))
why_by ds f e sign (inr h) power fault = inl (fraction_some f h)
why_by ds f e sign (inl none) (inr h) fault = inr (inl (exponent_some e h))
why_by ds f e sign (inl none) (inl empty) fault =
    inr (inr (over sign ds (sym (ap (λ (w : List ℕ). with_sign sign (meaning ds (w ++ e))) none ∙ ap (λ (w : List ℕ). with_sign sign (meaning ds w)) empty) ∙ fault)))

not_both : (r : Result (Option ℤ) ValueFault) → r ≡ Ok None → r ≡ Err NotWhole → ⊥
not_both r none fault = cc

not_whole_if : (text : List ℕ) → number_of_text text ≡ Err NotWhole → IsNotWhole text
not_whole_if text h =
    let some : text ≢ [] = λ empty. empty_some (sym (ap number_of_text empty) ∙ h) in
    elim (number_cases text some) [
      | inl e ↦ absurd (not_both (number_of_text text) e h)
      | inr n ↦ (let s = number_meaning text n in (n, why_by n.integer n.fraction n.exponent s.sign n.is_fraction n.is_exponent (sym s.value ∙ h)))
    ]
  where
    empty_some : number_of_text [] ≡ Err NotWhole → ⊥
    empty_some e = cc

tail_fault : (sign : ℕ → ℤ) (ds rest : List ℕ) → rest ≢ [] → with_sign sign (meaning ds rest) ≡ Err NotWhole
tail_fault sign ds [] some = absurd (some refl)
tail_fault sign ds (b ∷ bs) some = refl

over_fault : (sign : ℕ → ℤ) (ds rest : List ℕ) → greatest < digits_value 10 0 ds → with_sign sign (meaning ds rest) ≡ Err NotWhole
over_fault sign ds [] large =
    let test : nat_le (digits_value 10 0 ds) greatest ≡ false = grind (arith, nat_tests) in
    ap (with_sign sign) (cond-false (nat_le (digits_value 10 0 ds) greatest) (Ok (Some (digits_value 10 0 ds))) (Err NotWhole) test)
over_fault sign ds (b ∷ bs) large = refl

append_some : (f e : List ℕ) → (f ≢ []) ⊎ (e ≢ []) → f ++ e ≢ []
append_some [] e (inl some) = absurd (some refl)
append_some [] e (inr some) = some
append_some (b ∷ f) e some = cons_some b (f ++ e)

not_whole_by : (text : List ℕ) → IsNotWhole text → number_of_text text ≡ Err NotWhole
not_whole_by text (n, why) = let s = number_meaning text n in s.value ∙ go s.sign why
  where
    go : (sign : ℕ → ℤ) → (n.fraction ≢ []) ⊎ ((n.exponent ≢ []) ⊎ (greatest < digits_value 10 0 n.integer)) → with_sign sign (meaning n.integer (n.fraction ++ n.exponent)) ≡ Err NotWhole
    go sign (inl some) = tail_fault sign n.integer (n.fraction ++ n.exponent) (append_some n.fraction n.exponent (inl some))
    go sign (inr (inl some)) = tail_fault sign n.integer (n.fraction ++ n.exponent) (append_some n.fraction n.exponent (inr some))
    go sign (inr (inr large)) = over_fault sign n.integer (n.fraction ++ n.exponent) large

pub other_number_is_not_whole : (text : List ℕ) → (number_of_text text ≡ Err NotWhole) ↔ IsNotWhole text
other_number_is_not_whole text = (not_whole_if text, not_whole_by text)

-- The value of digits, by std's words.
pub own_digits : IsNumeralModel (λ (ds : List ℕ). list_all is_digit ds ≡ true) (digits_value 10 0)
own_digits = numerals_by_fold _ (search rules) (digits_value 10) (record { empty = λ n. refl; more = digit_more })
  where
    digit_more : (n c : ℕ) (cs : List ℕ) → IsInRange 48 57 c → digits_value 10 n (c ∷ cs) ≡ digits_value 10 (n * 10 + (c - 48)) cs
    digit_more n c cs h = ap (λ (d : ℕ). digits_value 10 (n * 10 + d) cs) (digit_is c h.0 h.1)

decimal_integer : (n : ℕ) → n < 2 ^ 64 → IsInteger (decimal n)
decimal_integer zero h = inl (decimal_digit 0 (omega arith))
decimal_integer (suc n) h = inr ((decimal_some (suc n) h, digits_decimal own_digits (suc n) h), λ rest e. absurd (omega (arith, first_decimal (suc n) (omega arith) h, ap (λ (w : List ℕ). get_or w 0 0) e)))
  where
    decimal_some : (m : ℕ) → m < 2 ^ 64 → decimal m ≢ []
    decimal_some m small e = absurd (omega (arith, decimal_nonempty m small, ap length e))

decimal_meaning : (n : ℕ) → nat_le n greatest ≡ true → unsigned_number (decimal n) ≡ Ok (Some n)
decimal_meaning n test =
    let small : n < 2 ^ 64 = grind (arith, nat_tests) in
    ap unsigned_number (sym (append-nil (decimal n)))
    ∙ unsigned_meaning (decimal n) [] [] (decimal_integer n small) (inl refl) (inl refl)
    ∙ ap in_range (digits_value-decimal own_digits n small)
    ∙ cond-true (nat_le n greatest) (Ok (Some n)) (Err NotWhole) test

pub decimal_is_its_number : (z : ℤ) → is_whole z ≡ true → number_of_text (signed_decimal z) ≡ Ok (Some z)
decimal_is_its_number (pos n) h =
    let small : n < 2 ^ 64 = grind (arith, nat_tests) in
    ap number_of_text (sym (append-nil (decimal n)))
    ∙ digit_first (decimal n) [] (integer_some (decimal n) (decimal_integer n small))
    ∙ ap (λ (w : List ℕ). with_sign pos (unsigned_number w)) (append-nil (decimal n))
    ∙ ap (with_sign pos) (decimal_meaning n h)
decimal_is_its_number (negsuc n) h =
    let test : nat_le (suc n) greatest ≡ true = grind (arith, nat_tests) in
    ap (with_sign negative) (decimal_meaning (suc n) test)

-- The text of an integer, and that with a minus.
pub integer_has_its_value : (digits : List ℕ) → IsInteger digits → digits_value 10 0 digits ≤ greatest
    → (number_of_text digits ≡ Ok (Some (pos (digits_value 10 0 digits)))) × (number_of_text (codes "-" ++ digits) ≡ Ok (Some (negative (digits_value 10 0 digits))))
integer_has_its_value digits h small = (
  ap number_of_text (sym (append-nil digits)) ∙ digit_first digits [] (integer_some digits h)
      ∙ ap (λ (w : List ℕ). with_sign pos (unsigned_number w)) (append-nil digits) ∙ ap (with_sign pos) value,
  ap (with_sign negative) value,
)
  where
    value : unsigned_number digits ≡ Ok (Some (digits_value 10 0 digits))
    value =
        let test : nat_le (digits_value 10 0 digits) greatest ≡ true = grind (arith, nat_tests) in
        ap unsigned_number (sym (append-nil digits)) ∙ unsigned_meaning digits [] [] h (inl refl) (inl refl)
        ∙ cond-true (nat_le (digits_value 10 0 digits) greatest) (Ok (Some (digits_value 10 0 digits))) (Err NotWhole) test
