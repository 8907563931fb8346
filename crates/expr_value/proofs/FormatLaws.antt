-- Laws of `format`.
use Rattle.std.proofs.Common.{◌≡◌, ℕ, ◌^◌, ◌<◌, Bool, true, false, cond, ◌&&◌, ◌==◌, Option, Some, None, is_some, unwrap_or, Err, List, [], ◌∷◌, ◌++◌, length, map, decimal, append-nil, append_assoc, refl, sym, ap, ◌∙◌, arith}
use Rattle.std.specs.Prelude.{codes, flat_map}
use Rattle.std.proofs.lemmas.Bool.{cond-false, eqb-true}
use Rattle.std.proofs.lemmas.Fmt.{digits_decimal, digits_value-decimal, decimal_nonempty}
use Rattle.std.proofs.lemmas.Option.{slice_get-map}
use Rattle.std.specs.List.{list_all, slice_get, AllByRecursion}
use Rattle.std.specs.Option.{option_map}
use Rattle.expr_value.proofs.Braces.{plain_run, opened_run, consed, unchanged}
use Rattle.expr_value.proofs.JsonNumbers.{own_digits}
use Rattle.expr_value.specs.Format.{formatted, after_byte, after_argument}
use Rattle.expr_value.specs.FunctionLaws.{HasNoBrace, with_doubled_braces, Slot, words, place, slot_text, HasDigits, argument_of, is_given, filled, filled_text, with_place}
use Rattle.expr_value.specs.Functions.{format, formatted_value, text_of_value}
use Rattle.expr_value.specs.JsonNumber.{IsDigits}
use Rattle.expr_value.specs.Limit.{limited}
use Rattle.flow_model.specs.Plain.{Plain, text}
use Rattle.flow_model.specs.declared.reply.ValueFault.TheVariants.{BadFormat}

pub without_braces : (arguments : List (List ℕ)) (bytes : List ℕ) → HasNoBrace bytes → formatted arguments bytes ≡ Some bytes
without_braces arguments bytes h =
    ap (formatted arguments) (sym (append-nil bytes)) ∙ plain_run arguments bytes [] h ∙ ap (λ (w : List ℕ). Some w) (append-nil bytes)

-- ---- doubled braces

doubled_by : (arguments : List (List ℕ)) (b : ℕ) (bs rest : List ℕ) (t u : Bool) → (b == 123) ≡ t → (b == 125) ≡ u
    → formatted arguments (with_doubled_braces bs ++ rest) ≡ option_map (λ (w : List ℕ). bs ++ w) (formatted arguments rest)
    → formatted arguments (cond t (123 ∷ 123 ∷ with_doubled_braces bs) (cond u (125 ∷ 125 ∷ with_doubled_braces bs) (b ∷ with_doubled_braces bs)) ++ rest) ≡ option_map (λ (w : List ℕ). b ∷ (bs ++ w)) (formatted arguments rest)
doubled_by arguments b bs rest true u at_t at_u h =
    ap (after_byte 123) h ∙ consed 123 bs (formatted arguments rest) ∙ ap (λ (c : ℕ). option_map (λ (w : List ℕ). c ∷ (bs ++ w)) (formatted arguments rest)) (sym (eqb-true b 123 at_t))
doubled_by arguments b bs rest false true at_t at_u h =
    ap (after_byte 125) h ∙ consed 125 bs (formatted arguments rest) ∙ ap (λ (c : ℕ). option_map (λ (w : List ℕ). c ∷ (bs ++ w)) (formatted arguments rest)) (sym (eqb-true b 125 at_u))
doubled_by arguments b bs rest false false at_t at_u h =
    cond-false (b == 123) _ _ at_t ∙ cond-false (b == 125) _ _ at_u ∙ ap (after_byte b) h ∙ consed b bs (formatted arguments rest)

-- A text with its braces doubled stands for the text.
doubled_run : (arguments : List (List ℕ)) (bytes rest : List ℕ) → formatted arguments (with_doubled_braces bytes ++ rest) ≡ option_map (λ (w : List ℕ). bytes ++ w) (formatted arguments rest)
doubled_run arguments [] rest = unchanged (formatted arguments rest)
doubled_run arguments (b ∷ bs) rest = doubled_by arguments b bs rest (b == 123) (b == 125) refl refl (doubled_run arguments bs rest)

pub doubled_braces : (arguments : List (List ℕ)) (bytes : List ℕ) → formatted arguments (with_doubled_braces bytes) ≡ Some bytes
doubled_braces arguments bytes =
    ap (formatted arguments) (sym (append-nil (with_doubled_braces bytes))) ∙ doubled_run arguments bytes [] ∙ ap (λ (w : List ℕ). Some w) (append-nil bytes)

-- ---- places

some_length : (ds : List ℕ) → (ds ≡ [] → ⊥) → 0 < length ds
some_length [] some = absurd (some refl)
some_length (d ∷ ds) some = omega arith

-- A place stands for its argument.
place_run : (arguments : List (List ℕ)) (ds rest : List ℕ) → IsDigits ds → formatted arguments (codes "{" ++ (ds ++ (codes "}" ++ rest))) ≡ after_argument (argument_of arguments ds) (formatted arguments rest)
place_run arguments ds rest h = opened_run arguments ds (codes "}" ++ rest) h.1 (some_length ds h.0)

after_given : (argument : Option (List ℕ)) (bytes : List ℕ) (t : Bool) → after_argument argument (cond t (Some bytes) None) ≡ cond (is_some argument && t) (Some (unwrap_or argument [] ++ bytes)) None
after_given None bytes t = refl
after_given (Some front) bytes true = refl
after_given (Some front) bytes false = refl

after_words : (front bytes : List ℕ) (t : Bool) → option_map (λ (w : List ℕ). front ++ w) (cond t (Some bytes) None) ≡ cond (true && t) (Some (front ++ bytes)) None
after_words front bytes true = refl
after_words front bytes false = refl

slot_run : (arguments : List (List ℕ)) (slot : Slot) (rest : List ℕ) (bytes : List ℕ) (t : Bool) → HasDigits slot → formatted arguments rest ≡ cond t (Some bytes) None
    → formatted arguments (slot_text slot ++ rest) ≡ cond (is_given arguments slot && t) (Some (filled arguments slot ++ bytes)) None
slot_run arguments (words front) rest bytes t h same =
    doubled_run arguments front rest ∙ ap (option_map (λ (w : List ℕ). front ++ w)) same ∙ after_words front bytes t
slot_run arguments (place ds) rest bytes t h same =
    ap (λ (w : List ℕ). formatted arguments (123 ∷ w)) (append_assoc ds (codes "}") rest)
    ∙ place_run arguments ds rest h ∙ ap (after_argument (argument_of arguments ds)) same ∙ after_given (argument_of arguments ds) bytes t

pub format_with_places : (arguments : List (List ℕ)) (slots : List Slot) → AllByRecursion HasDigits slots → formatted arguments (flat_map slot_text slots) ≡ filled_text arguments slots
format_with_places arguments [] h = refl
format_with_places arguments (slot ∷ slots) h =
    slot_run arguments slot (flat_map slot_text slots) (flat_map (filled arguments) slots) (list_all (is_given arguments) slots) h.0 (format_with_places arguments slots h.1)

-- ---- one place between two texts

place_between : (arguments : List (List ℕ)) (before after : List ℕ) (n : ℕ) → n < 2 ^ 64
    → formatted arguments (with_place before n after) ≡ option_map (λ (w : List ℕ). before ++ w) (after_argument (slice_get arguments n) (Some after))
place_between arguments before after n small =
    doubled_run arguments before (codes "{" ++ (decimal n ++ (codes "}" ++ with_doubled_braces after)))
    ∙ ap (option_map (λ (w : List ℕ). before ++ w))
    (place_run arguments (decimal n) (with_doubled_braces after) (decimal_some, digits_decimal own_digits n small)
    ∙ ap (λ (k : ℕ). after_argument (slice_get arguments k) (formatted arguments (with_doubled_braces after))) (digits_value-decimal own_digits n small)
    ∙ ap (after_argument (slice_get arguments n)) (doubled_braces arguments after))
  where
    decimal_some : decimal n ≡ [] → ⊥
    decimal_some e = omega (arith, decimal_nonempty n small, ap length e)

argument_text : (arguments : List Plain) (n : ℕ) (argument : Option Plain) → slice_get arguments n ≡ argument → slice_get (map text_of_value arguments) n ≡ option_map text_of_value argument
argument_text arguments n argument at = slice_get-map text_of_value arguments n ∙ ap (option_map text_of_value) at

value_between : (arguments : List Plain) (before after : List ℕ) (n : ℕ) (argument : Option Plain) → n < 2 ^ 64 → slice_get arguments n ≡ argument
    → format (text (with_place before n after)) arguments ≡ formatted_value (option_map (λ (w : List ℕ). before ++ w) (after_argument (option_map text_of_value argument) (Some after)))
value_between arguments before after n argument small at =
    ap formatted_value
    (place_between (map text_of_value arguments) before after n small
    ∙ ap (λ (o : Option (List ℕ)). option_map (λ (w : List ℕ). before ++ w) (after_argument o (Some after))) (argument_text arguments n argument at))

pub place_given : (arguments : List Plain) (before after : List ℕ) (n : ℕ) (argument : Plain) → n < 2 ^ 64 → slice_get arguments n ≡ Some argument
    → format (text (with_place before n after)) arguments ≡ limited (before ++ (text_of_value argument ++ after))
place_given arguments before after n argument small at = value_between arguments before after n (Some argument) small at

pub place_missing : (arguments : List Plain) (before after : List ℕ) (n : ℕ) → n < 2 ^ 64 → slice_get arguments n ≡ None
    → format (text (with_place before n after)) arguments ≡ Err BadFormat
place_missing arguments before after n small at = value_between arguments before after n None small at
