-- The pieces of a format text.
use Rattle.std.proofs.Common.{◌≡◌, ℕ, zero, suc, ◌+◌, ◌-◌, ◌*◌, ◌<◌, ◌≤◌, Bool, true, false, nat_lt, ◌==◌, Some, None, Option, List, [], ◌∷◌, ◌++◌, map, length, get_or, take, drop, length-drop, refl, sym, ap, subst, ◌∙◌, arith}
use Rattle.std.proofs.lemmas.Bool.{cond-true, cond-false, eqb-true}
use Rattle.std.proofs.lemmas.Bool.Decides.{nat_tests}
use Rattle.std.proofs.lemmas.List.Sums.{prefix_len-le-length, prefix_len_passes, prefix_len_stops}
use Rattle.std.proofs.lemmas.List.{take-append-drop}
use Rattle.std.proofs.lemmas.Option.{slice_get-map}
use Rattle.std.proofs.lemmas.Str.{IsCharBoundary-start, IsCharBoundary-after_ascii}
use Rattle.std.proofs.lemmas.Str.Parse.{parse_digits}
use Rattle.std.specs.Str.Parse.{ParsesUnsigned}
use Rattle.std.specs.Prelude.{Result, Ok, Err, MatchResult, ◌^◌}
use Rattle.std.specs.Char.{digit_value}
use Rattle.std.specs.List.{prefix_len, list_all, slice_get}
use Rattle.std.specs.Option.{option_map}
use Rattle.std.specs.Str.{IsUtf8, IsCharBoundary}
use Rattle.expr_reader.specs.Bytes.{is_digit}
use Rattle.expr_reader.specs.Number.{digits_value}
use Rattle.expr_value.specs.Convert.{text_of}
use Rattle.expr_value.specs.Format.{formatted, opened, numbered, closed, after_byte, after_argument}
use Rattle.expr_value.specs.Formatting.{is_plain}
use Rattle.expr_value.specs.Functions.{text_of_value}
use Rattle.expr_value.specs.PlainKind.{PlainKind, kind_of}
use Rattle.flow_model.specs.Plain.{Plain}
use Rattle.expr_value.proofs.JsonNumbers.{own_digits}
use Rattle.expr_value.proofs.Runs.{if_holds, spans, first_fails, all_parts}

-- ---- where a format text may be cut

digit_boundary_at : (bs : List ℕ) → IsUtf8 bs → (n : ℕ) → prefix_len is_digit bs ≡ n → IsCharBoundary bs n
digit_boundary_at bs utf8 zero h = IsCharBoundary-start bs utf8
digit_boundary_at bs utf8 (suc n) h =
    let inside : n < length bs = omega (arith, prefix_len-le-length is_digit bs) in
    let more : n + 1 ≡ suc n = omega arith in
    let passes : is_digit (get_or bs n 0) ≡ true = prefix_len_passes is_digit bs n 0 (omega arith) in
    let low : get_or bs n 0 < 128 = digit_low (get_or bs n 0) passes in
    subst (IsCharBoundary bs) more (IsCharBoundary-after_ascii bs n utf8 inside low)
  where
    digit_low : (b : ℕ) → is_digit b ≡ true → b < 128
    digit_low b h = grind (arith, nat_tests)

-- After digits.
pub digit_boundary : (bs : List ℕ) → IsUtf8 bs → IsCharBoundary bs (prefix_len is_digit bs)
digit_boundary bs utf8 = digit_boundary_at bs utf8 (prefix_len is_digit bs) refl

brace_low : (b : ℕ) → is_plain b ≡ false → b < 128
brace_low b h = grind (arith, nat_tests)

-- Before the first brace.
pub plain_boundary : (bs : List ℕ) → IsCharBoundary bs (prefix_len is_plain bs)
plain_boundary bs =
    (prefix_len-le-length is_plain bs, λ inside high. absurd (omega (arith, brace_low (get_or bs (prefix_len is_plain bs) 0) (prefix_len_stops is_plain bs 0 inside))))

-- ---- digits

past_by : (n v most : ℕ) (t : Bool) → nat_lt v most ≡ t → 0 < n → ((0 < n) × (v < most) → ⊥) → most ≤ v
past_by n v most true test some h = absurd (h (some, grind (arith, nat_tests)))
past_by n v most false test some h = grind (arith, nat_tests)

-- What is not both is too large.
pub past_most : (n v most : ℕ) → 0 < n → ((0 < n) × (v < most) → ⊥) → most ≤ v
past_most n v most some h = past_by n v most (nat_lt v most) refl some h

-- Digits are gone over.
numbered_run : (arguments : List (List ℕ)) (n : ℕ) (ds rest : List ℕ) → list_all is_digit ds ≡ true → numbered arguments n (ds ++ rest) ≡ numbered arguments (digits_value 10 n ds) rest
numbered_run arguments n [] rest h = refl
numbered_run arguments n (b ∷ ds) rest h =
    let parts = all_parts is_digit b ds h in
    cond-true (is_digit b) _ _ parts.0 ∙ numbered_run arguments (n * 10 + digit_value b) ds rest parts.1

digit_no_brace : (b : ℕ) → is_digit b ≡ true → (b == 123) ≡ false
digit_no_brace b h = grind (arith, nat_tests)

-- After an opening brace, the digits of a number are gone over.
pub opened_run : (arguments : List (List ℕ)) (ds rest : List ℕ) → list_all is_digit ds ≡ true → 0 < length ds → opened arguments (ds ++ rest) ≡ numbered arguments (digits_value 10 0 ds) rest
opened_run arguments [] rest h some = absurd (omega arith)
opened_run arguments (b ∷ ds) rest h some =
    let parts = all_parts is_digit b ds h in
    let same : 0 * 10 + digit_value b ≡ digit_value b = omega arith in
    cond-false (b == 123) _ _ (digit_no_brace b parts.0)
    ∙ cond-true (is_digit b) _ _ parts.0
    ∙ numbered_run arguments (digit_value b) ds rest parts.1
    ∙ ap (λ (k : ℕ). numbered arguments (digits_value 10 k ds) rest) (sym same)

-- Those bytes are digits.
pub digits_pass : (text ds : List ℕ) → ds ≡ take (prefix_len is_digit text) text → list_all is_digit ds ≡ true
digits_pass text ds front = ap (list_all is_digit) front ∙ (spans is_digit text).run

-- A brace that is not closed at once has the digits of a number.
pub opened_digits : (arguments : List (List ℕ)) (text ds rest : List ℕ) → ds ≡ take (prefix_len is_digit text) text → rest ≡ drop (prefix_len is_digit text) text → 0 < length ds → opened arguments text ≡ numbered arguments (digits_value 10 0 ds) rest
opened_digits arguments text ds rest front back some =
    let joined : text ≡ ds ++ rest = sym (take-append-drop (prefix_len is_digit text) text) ∙ ap (λ (w : List ℕ). w ++ drop (prefix_len is_digit text) text) (sym front) ∙ ap (λ (w : List ℕ). ds ++ w) (sym back) in
    ap (opened arguments) joined ∙ opened_run arguments ds rest (digits_pass text ds front) some

-- An opening brace with neither a brace nor a digit after it.
pub opened_none : (arguments : List (List ℕ)) (text : List ℕ) → ((rest : List ℕ) → text ≡ 123 ∷ rest → ⊥) → prefix_len is_digit text ≡ 0 → opened arguments text ≡ None
opened_none arguments [] other h = refl
opened_none arguments (b ∷ bs) other h =
    if_holds (λ (o : Option (List ℕ)). o ≡ None) (b == 123) _ _
    (λ same. absurd (other bs (ap (λ (c : ℕ). c ∷ bs) (eqb-true b 123 same))))
    (λ _. cond-false (is_digit b) _ _ (first_fails is_digit b bs h))

-- After the digits of a number, neither a digit nor a closing brace.
pub numbered_none : (arguments : List (List ℕ)) (n : ℕ) (text : List ℕ) → ((rest : List ℕ) → text ≡ 125 ∷ rest → ⊥) → prefix_len is_digit text ≡ 0 → numbered arguments n text ≡ None
numbered_none arguments n [] other h = refl
numbered_none arguments n (b ∷ bs) other h =
    cond-false (is_digit b) _ _ (first_fails is_digit b bs h)
    ∙ if_holds (λ (o : Option (List ℕ)). o ≡ None) (b == 125) _ _
    (λ same. absurd (other bs (ap (λ (c : ℕ). c ∷ bs) (eqb-true b 125 same))))
    (λ _. refl)

-- After a closing brace, no closing brace.
pub closed_none : (arguments : List (List ℕ)) (text : List ℕ) → ((rest : List ℕ) → text ≡ 125 ∷ rest → ⊥) → closed arguments text ≡ None
closed_none arguments [] other = refl
closed_none arguments (b ∷ bs) other =
    if_holds (λ (o : Option (List ℕ)). o ≡ None) (b == 125) _ _
    (λ same. absurd (other bs (ap (λ (c : ℕ). c ∷ bs) (eqb-true b 125 same))))
    (λ _. refl)

-- ---- plain bytes

plain_step : (b : ℕ) → is_plain b ≡ true → ((b == 123) ≡ false) × ((b == 125) ≡ false)
plain_step b h = (grind (arith, nat_tests), grind (arith, nat_tests))

pub consed : (b : ℕ) (p : List ℕ) (o : Option (List ℕ)) → after_byte b (option_map (λ (w : List ℕ). p ++ w) o) ≡ option_map (λ (w : List ℕ). b ∷ (p ++ w)) o
consed b p None = refl
consed b p (Some w) = refl

pub unchanged : (o : Option (List ℕ)) → o ≡ option_map (λ (w : List ℕ). [] ++ w) o
unchanged None = refl
unchanged (Some w) = refl

-- Bytes that stand for themselves.
pub plain_run : (arguments : List (List ℕ)) (p rest : List ℕ) → list_all is_plain p ≡ true → formatted arguments (p ++ rest) ≡ option_map (λ (w : List ℕ). p ++ w) (formatted arguments rest)
plain_run arguments [] rest h = unchanged (formatted arguments rest)
plain_run arguments (b ∷ p) rest h =
    let parts = all_parts is_plain b p h in
    let tests = plain_step b parts.0 in
    cond-false (b == 123) _ _ tests.0
    ∙ cond-false (b == 125) _ _ tests.1
    ∙ ap (after_byte b) (plain_run arguments p rest parts.1)
    ∙ consed b p (formatted arguments rest)

plain_first : (b : ℕ) → (b ≡ 123 → ⊥) → (b ≡ 125 → ⊥) → is_plain b ≡ true
plain_first b opening closing = grind (arith, nat_tests)

-- A text that begins with no brace begins with a byte that stands for itself.
pub plain_some : (text : List ℕ) → 0 < length text → ((rest : List ℕ) → text ≡ 123 ∷ rest → ⊥) → ((rest : List ℕ) → text ≡ 125 ∷ rest → ⊥) → 1 ≤ prefix_len is_plain text
plain_some [] some opening closing = absurd (omega arith)
plain_some (b ∷ bs) some opening closing =
    let first : is_plain b ≡ true = plain_first b (λ e. opening bs (ap (λ (c : ℕ). c ∷ bs) e)) (λ e. closing bs (ap (λ (c : ℕ). c ∷ bs) e)) in
    let size : prefix_len is_plain (b ∷ bs) ≡ 1 + prefix_len is_plain bs = cond-true (is_plain b) (1 + prefix_len is_plain bs) 0 first in
    omega arith

-- ---- arguments

texts_by : (o : Option Plain) → option_map text_of_value o ≡ option_map text_of (option_map kind_of o)
texts_by None = refl
texts_by (Some v) = refl

-- The text of an argument, by its kind.
pub argument_text : (arguments : List Plain) (n : ℕ) → slice_get (map text_of_value arguments) n ≡ option_map text_of (option_map kind_of (slice_get arguments n))
argument_text arguments n = slice_get-map text_of_value arguments n ∙ texts_by (slice_get arguments n)

-- What parsing the digits of a number gives.
pub number_read : {E : Type 0} (ds : List ℕ) (r : Result ℕ E) → ParsesUnsigned 64 10 ds r → list_all is_digit ds ≡ true → 0 < length ds → MatchResult r (λ n. n ≡ digits_value 10 0 ds) (λ e. 2 ^ 64 ≤ digits_value 10 0 ds)
number_read {E} ds (Ok n) h all some = (parse_digits own_digits {E = E} 64 ds (Ok n) h all).1
number_read {E} ds (Err e) h all some = past_most (length ds) (digits_value 10 0 ds) (2 ^ 64) some (parse_digits own_digits {E = E} 64 ds (Err e) h all)

-- ---- the steps

-- A plain front: what is after it, and how much.
pub plain_front : (arguments : List (List ℕ)) (text front rest : List ℕ) → front ≡ take (prefix_len is_plain text) text → rest ≡ drop (prefix_len is_plain text) text → formatted arguments text ≡ option_map (λ (w : List ℕ). front ++ w) (formatted arguments rest)
plain_front arguments text front rest at_front at_back =
    let joined : text ≡ front ++ rest = sym (take-append-drop (prefix_len is_plain text) text) ∙ ap (λ (w : List ℕ). w ++ drop (prefix_len is_plain text) text) (sym at_front) ∙ ap (λ (w : List ℕ). front ++ w) (sym at_back) in
    ap (formatted arguments) joined ∙ plain_run arguments front rest (ap (list_all is_plain) at_front ∙ (spans is_plain text).run)

-- A front is gone.
pub rest_shorter : (p : ℕ → Bool) (text rest : List ℕ) → rest ≡ drop (prefix_len p text) text → length rest ≡ length text - prefix_len p text
rest_shorter p text rest back = ap length back ∙ length-drop (prefix_len p text) text

-- The value of the text from an argument's number on, where that argument is there.
pub argument_found : (arguments : List Plain) (n : ℕ) (kind : PlainKind) (o : Option (List ℕ)) → Some kind ≡ option_map kind_of (slice_get arguments n) → after_argument (slice_get (map text_of_value arguments) n) o ≡ option_map (λ (w : List ℕ). text_of kind ++ w) o
argument_found arguments n kind o found = ap (λ (a : Option (List ℕ)). after_argument a o) (argument_text arguments n ∙ ap (option_map text_of) (sym found))

-- Where it is not there.
pub argument_missing : (arguments : List Plain) (n : ℕ) (o : Option (List ℕ)) → None ≡ option_map kind_of (slice_get arguments n) → after_argument (slice_get (map text_of_value arguments) n) o ≡ None
argument_missing arguments n o missing = ap (λ (a : Option (List ℕ)). after_argument a o) (argument_text arguments n ∙ ap (option_map text_of) (sym missing))
