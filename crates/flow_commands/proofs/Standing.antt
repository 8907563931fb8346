-- What stands at the front of a text.
use Rattle.std.proofs.Common.{◌≡◌, ℕ, ◌+◌, ◌<◌, Bool, true, false, cond, zero, suc, get_or, Option, Some, None, List, ◌∷◌, ◌++◌, length, take, drop, nat_eq, refl, sym, ap, subst, ◌∙◌, arith, drop-cons}
use Rattle.std.proofs.Math.Seq.{take-append_seam}
use Rattle.std.proofs.lemmas.Bool.{cond-true}
use Rattle.std.proofs.lemmas.Bool.Decides.{Decides-eqb, nat_tests}
use Rattle.std.proofs.lemmas.List.Sums.{prefix_len-le-length, prefix_len_passes}
use Rattle.std.proofs.lemmas.Slice.Eq.{starts_is}
use Rattle.std.specs.Borrow.{Bor}
use Rattle.std.specs.List.{starts_with, prefix_len}
use Rattle.std.specs.Option.{option_map, MatchOption}
use Rattle.std.specs.Str.Pattern.{FindsTextPrefix, StripsPrefix}
use Rattle.flow_commands.specs.Splits.{after_front, is_blank}
use Rattle.std.proofs.lemmas.Str.{IsCharBoundary-start, IsCharBoundary-after_ascii}
use Rattle.std.specs.Str.{IsUtf8, IsCharBoundary}

-- a text that begins with this one is it and the rest
pub front_parts : (text front : List ℕ) → starts_with nat_eq text front ≡ true → text ≡ front ++ drop (length front) text
front_parts text front h = (starts_is Decides-eqb text front (starts_with nat_eq text front) refl).0 h

-- this one is its first bytes
pub front_is : (text front : List ℕ) → starts_with nat_eq text front ≡ true → take (length front) text ≡ front
front_is text front h = ap (take (length front)) (front_parts text front h) ∙ take-append_seam front (drop (length front) text)

pub front_text : (text front : List ℕ) → starts_with nat_eq text front ≡ true → IsUtf8 front → IsUtf8 (take (length front) text)
front_text text front h utf8 = subst IsUtf8 (sym (front_is text front h)) utf8

boundary_by : (text : List ℕ) (i n : ℕ) → i < length text → 0 < n → IsUtf8 (take n (get_or text i 0 ∷ drop (suc i) text)) → IsCharBoundary text i
boundary_by text i zero within some utf8 = absurd (omega arith)
boundary_by text i (suc n) within some utf8 =
    let start = IsCharBoundary-start (get_or text i 0 ∷ take n (drop (suc i) text)) utf8 in
    (omega arith, λ _ high. start.1 (omega arith) high)

-- a text may be cut where bytes stand that are text
pub standing_boundary : (text : List ℕ) (i n : ℕ) → i < length text → 0 < n → IsUtf8 (take n (drop i text)) → IsCharBoundary text i
standing_boundary text i n within some utf8 =
    boundary_by text i n within some (subst (λ (t : List ℕ). IsUtf8 (take n t)) (drop-cons text i 0 within) utf8)

blanks_by : (bs : List ℕ) → IsUtf8 bs → (n : ℕ) → prefix_len is_blank bs ≡ n → IsCharBoundary bs n
blanks_by bs utf8 zero h = IsCharBoundary-start bs utf8
blanks_by bs utf8 (suc n) h =
    let inside : n < length bs = omega (arith, prefix_len-le-length is_blank bs) in
    let more : n + 1 ≡ suc n = omega arith in
    subst (IsCharBoundary bs) more (IsCharBoundary-after_ascii bs n utf8 inside (low (get_or bs n 0) (prefix_len_passes is_blank bs n 0 (omega arith))))
  where
    low : (b : ℕ) → is_blank b ≡ true → b < 128
    low b k = grind (arith, nat_tests)

-- a text may be cut after its spaces and tabs
pub blanks_boundary : (bs : List ℕ) → IsUtf8 bs → IsCharBoundary bs (prefix_len is_blank bs)
blanks_boundary bs utf8 = blanks_by bs utf8 (prefix_len is_blank bs) refl

-- what follows a front
pub strip_front : (front text : List ℕ) (r : Option (Bor (List ℕ)))
    → MatchOption r (FindsTextPrefix front text None) (λ x. StripsPrefix (FindsTextPrefix front) text x.now)
    → option_map (λ x. x.now) r ≡ after_front front text
strip_front front text None h = by_test (starts_with nat_eq text front) refl
  where
    by_test : (t : Bool) → starts_with nat_eq text front ≡ t → None ≡ cond t (Some (drop (length front) text)) None
    by_test true is = absurd (h (drop (length front) text) (front_parts text front is))
    by_test false is = refl
strip_front front text (Some x) h =
    let begins : starts_with nat_eq text front ≡ true = (starts_is Decides-eqb text front (starts_with nat_eq text front) refl).1 (drop h.0 text) h.1.1 in
    ap (λ (y : List ℕ). Some y) h.2 ∙ ap (λ (n : ℕ). Some (drop n text)) h.1.0
    ∙ sym (cond-true (starts_with nat_eq text front) (Some (drop (length front) text)) None begins)
