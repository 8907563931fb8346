-- The choices of the product stand in the order of their numbers.
use Rattle.std.proofs.Common.{◌≡◌, ◌∙◌, ◌<◌, ◌*◌, true, ◌/◌, ◌%◌, ◌+◌, ◌++◌, ℕ, zero, suc, List, [], ◌∷◌, map, length, get_or, refl, ap, sym, arith, subst}
use Rattle.std.proofs.Math.Nat.{zero-mul, suc-mul, add_comm}
use Rattle.std.proofs.lemmas.Nat.{div-add-mod'}
use Rattle.std.proofs.lemmas.List.{get_or_append_left, get_or-append-add, get_or-map, length-map, length-append}
use Rattle.std.specs.List.{flat_map}
use Rattle.flow_model.specs.Plain.{Plain, null}
use Rattle.matrix_expand.specs.Choices.{choice}
use Rattle.matrix_expand.specs.Combos.{Pairs, Variables, product}
use Rattle.matrix_expand.specs.Expands.{have_values, size}
use Rattle.matrix_expand.proofs.Numbers.{have_first, place_within, rest_within}

-- a value of a name before each of these
abbrev with_front : List ℕ → List Pairs → Plain → List Pairs
with_front name cs x = map (λ c. (name, x) ∷ c) cs

zero_add : (r : ℕ) → 0 + r ≡ r
zero_add r = omega arith

length_rows : (name : List ℕ) (cs : List Pairs) (xs : List Plain) → length (flat_map (with_front name cs) xs) ≡ length xs * length cs
length_rows name cs [] = sym (zero-mul (length cs))
length_rows name cs (x ∷ xs) =
    length-append (with_front name cs x) (flat_map (with_front name cs) xs)
    ∙ ap (λ n. n + length (flat_map (with_front name cs) xs)) (length-map cs (λ c. (name, x) ∷ c))
    ∙ ap (λ n. length cs + n) (length_rows name cs xs)
    ∙ add_comm (length cs) (length xs * length cs)
    ∙ sym (suc-mul (length xs) (length cs))

pub length_product : (vs : Variables) → length (product vs) ≡ size vs
length_product [] = refl
length_product (v ∷ vs) = length_rows v.0 (product vs) v.1 ∙ ap (λ n. length v.1 * n) (length_product vs)

-- row q, place r
at_row : (name : List ℕ) (cs : List Pairs) (xs : List Plain) (q r : ℕ) (d : Pairs) → q < length xs → r < length cs
    → get_or (flat_map (with_front name cs) xs) (q * length cs + r) d ≡ (name, get_or xs q null) ∷ get_or cs r []
at_row name cs [] q r d h w = absurd (omega arith)
at_row name cs (x ∷ xs) zero r d h w =
    let here : 0 * length cs + r ≡ r = ap (λ n. n + r) (zero-mul (length cs)) ∙ zero_add r in
    let left : r < length (with_front name cs x) = subst (λ n. r < n) (sym (length-map cs (λ c. (name, x) ∷ c))) w in
    ap (λ n. get_or (with_front name cs x ++ flat_map (with_front name cs) xs) n d) here
    ∙ get_or_append_left (with_front name cs x) (flat_map (with_front name cs) xs) d r left
    ∙ get_or-map (λ c. (name, x) ∷ c) cs r [] d w
at_row name cs (x ∷ xs) (suc q) r d h w =
    let there : suc q * length cs + r ≡ length (with_front name cs x) + (q * length cs + r) =
    let grown : suc q * length cs ≡ q * length cs + length cs = suc-mul q (length cs) in
    let wide : length (with_front name cs x) ≡ length cs = length-map cs (λ c. (name, x) ∷ c) in
    rw (grown, wide) (omega arith) in
    ap (λ n. get_or (with_front name cs x ++ flat_map (with_front name cs) xs) n d) there
    ∙ get_or-append-add (with_front name cs x) (flat_map (with_front name cs) xs) (q * length cs + r) d
    ∙ at_row name cs xs q r d (omega arith) w

-- the choice of a number stands at that place
pub at_product : (vs : Variables) (n : ℕ) (d : Pairs) → have_values vs ≡ true → n < size vs → get_or (product vs) n d ≡ choice vs n
at_product [] n d h w =
    let first : n ≡ 0 = omega arith in
    rw first refl
at_product (v ∷ vs) n d h w =
    let q = n / size vs in
    let r = n % size vs in
    let many : length (product vs) ≡ size vs = length_product vs in
    let place : q * length (product vs) + r ≡ n = ap (λ m. q * m + r) many ∙ div-add-mod' n (size vs) in
    let left : r < size vs = rest_within v vs n h in
    ap (λ m. get_or (product (v ∷ vs)) m d) (sym place)
    ∙ at_row v.0 (product vs) v.1 q r d (place_within v vs (size (v ∷ vs)) n h refl w) (subst (λ m. r < m) (sym many) left)
    ∙ ap (λ (c : Pairs). (v.0, get_or v.1 q null) ∷ c) (at_product vs r [] (have_first v vs h).1 left)
