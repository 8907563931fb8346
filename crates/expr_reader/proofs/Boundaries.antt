-- Where a text may be cut.
use Rattle.std.proofs.Common.{◌≡◌, ℕ, zero, suc, ◌+◌, ◌-◌, ◌<◌, ◌≤◌, true, Some, List, [], ◌∷◌, length, get_or, drop, reverse, slice_get, refl, sym, ap, subst, ◌∙◌, arith}
use Rattle.std.proofs.lemmas.Bool.Decides.{nat_tests}
use Rattle.std.proofs.lemmas.List.Sums.{prefix_len-le-length, prefix_len_passes}
use Rattle.std.proofs.lemmas.Str.{IsCharBoundary-start, IsCharBoundary-end, IsCharBoundary-before_ascii, IsCharBoundary-after_ascii}
use Rattle.std.proofs.lemmas.List.{length-reverse, get_or-reverse}
use Rattle.std.specs.List.{prefix_len, suffix_len}
use Rattle.std.specs.Str.{IsUtf8, IsCharBoundary}
use Rattle.expr_reader.specs.Bytes.{is_white}
use Rattle.expr_reader.specs.Class.{in_class}
use Rattle.expr_reader.specs.declared.bytes.Class.{Class}
use Rattle.expr_reader.specs.declared.bytes.Class.TheVariants.{White, Name, Number}

class_ascii : (c : Class) (b : ℕ) → in_class c b ≡ true → b < 128
class_ascii White b h = grind (arith, nat_tests)
class_ascii Name b h = grind (arith, nat_tests)
class_ascii Number b h = grind (arith, nat_tests)

boundary_at : (c : Class) (bs : List ℕ) → IsUtf8 bs → (n : ℕ) → prefix_len (in_class c) bs ≡ n → IsCharBoundary bs n
boundary_at c bs utf8 zero h = IsCharBoundary-start bs utf8
boundary_at c bs utf8 (suc n) h =
    let inside : n < length bs = omega (arith, prefix_len-le-length (in_class c) bs) in
    let more : n + 1 ≡ suc n = omega arith in
    subst (IsCharBoundary bs) more (IsCharBoundary-after_ascii bs n utf8 inside (class_ascii c (get_or bs n 0) (prefix_len_passes (in_class c) bs n 0 (omega arith))))

-- A text may be cut after a run of bytes of a class.
pub run_boundary : (c : Class) (bs : List ℕ) → IsUtf8 bs → IsCharBoundary bs (prefix_len (in_class c) bs)
run_boundary c bs utf8 = boundary_at c bs utf8 (prefix_len (in_class c) bs) refl

-- A text may be cut after its first byte, where that is ASCII.
pub first_boundary : (bs : List ℕ) (b : ℕ) → IsUtf8 bs → slice_get bs 0 ≡ Some b → b < 128 → IsCharBoundary bs 1
first_boundary [] b utf8 first low = cc
first_boundary (c ∷ bs) b utf8 first low =
    let same : c ≡ b = cc in
    IsCharBoundary-after_ascii (c ∷ bs) 0 utf8 (omega arith) (omega (arith, same))

-- A text is its first byte and the rest.
pub first_and_rest : (bs : List ℕ) (b : ℕ) → slice_get bs 0 ≡ Some b → bs ≡ b ∷ drop 1 bs
first_and_rest [] b h = cc
first_and_rest (c ∷ bs) b h = let same : c ≡ b = cc in ap (λ (x : ℕ). x ∷ bs) same

pub suffix_short : (c : Class) (bs : List ℕ) → suffix_len (in_class c) bs ≤ length bs
suffix_short c bs = omega (arith, prefix_len-le-length (in_class c) (reverse bs), length-reverse bs)

end_boundary_at : (c : Class) (bs : List ℕ) (n : ℕ) → suffix_len (in_class c) bs ≡ n → n ≤ length bs → IsCharBoundary bs (length bs - n)
end_boundary_at c bs zero h short = let all : length bs - 0 ≡ length bs = omega arith in subst (IsCharBoundary bs) (sym all) (IsCharBoundary-end bs)
end_boundary_at c bs (suc n) h short =
    let inside : n < length bs = omega arith in
    let place : length bs - 1 - n ≡ length bs - suc n = omega arith in
    let last = class_ascii c (get_or (reverse bs) n 0) (prefix_len_passes (in_class c) (reverse bs) n 0 (omega (arith, h))) in
    let same : get_or (reverse bs) n 0 ≡ get_or bs (length bs - suc n) 0 = get_or-reverse bs n 0 inside ∙ ap (λ (k : ℕ). get_or bs k 0) place in
    IsCharBoundary-before_ascii bs (length bs - suc n) (omega arith) (omega (arith, last, same))

-- A text may be cut before a run of bytes of a class at its end.
pub end_boundary : (c : Class) (bs : List ℕ) → IsCharBoundary bs (length bs - suffix_len (in_class c) bs)
end_boundary c bs = end_boundary_at c bs (suffix_len (in_class c) bs) refl (suffix_short c bs)

pub white_end_short : (bs : List ℕ) → suffix_len is_white bs ≤ length bs
white_end_short bs = suffix_short White bs

pub white_end_boundary : (bs : List ℕ) → IsCharBoundary bs (length bs - suffix_len is_white bs)
white_end_boundary bs = end_boundary White bs
