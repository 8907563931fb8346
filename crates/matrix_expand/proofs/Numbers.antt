-- How many choices there are, variable by variable.
use Rattle.std.proofs.Common.{◌≡◌, ◌∙◌, ◌<◌, ◌≤◌, ◌*◌, ◌/◌, ◌%◌, ℕ, true, List, [], ◌∷◌, length, ap, sym, arith, subst}
use Rattle.std.proofs.Math.Nat.{mul-div_cancel_left, div-lt_iff_lt-mul, mod-lt, mul-pos, mul_assoc, le-mul_of_pos_right}
use Rattle.std.proofs.lemmas.Grind.{common_steps}
use Rattle.std.proofs.lemmas.Bool.Decides.{nat_tests}
use Rattle.flow_model.specs.Plain.{Plain}
use Rattle.matrix_expand.specs.Combos.{Variables}
use Rattle.matrix_expand.specs.Expands.{have_values, size}

mul_positive : (a b : ℕ) → 0 < a → 0 < b → 0 < a * b
mul_positive a b h k = mul-pos h k

-- the first variable has a value, and so have the others
pub have_first : (v : List ℕ × List Plain) (vs : Variables) → have_values (v ∷ vs) ≡ true → (0 < length v.1) × (have_values vs ≡ true)
have_first v vs h = (grind (arith, nat_tests, common_steps), grind (arith, nat_tests, common_steps))

-- where each variable has a value, there is a choice
pub size_positive : (vs : Variables) → have_values vs ≡ true → 0 < size vs
size_positive [] h = omega arith
size_positive (v ∷ vs) h =
    let parts = have_first v vs h in
    mul_positive (length v.1) (size vs) parts.0 (size_positive vs parts.1)

-- the choices of the variables after the first
pub block_after : (v : List ℕ × List Plain) (vs : Variables) (block : ℕ) → have_values (v ∷ vs) ≡ true → block ≡ size (v ∷ vs) → block / length v.1 ≡ size vs
block_after v vs block h e = ap (λ n. n / length v.1) e ∙ mul-div_cancel_left (size vs) (have_first v vs h).0

-- the first variable's place is one of its values
pub place_within : (v : List ℕ × List Plain) (vs : Variables) (block rest : ℕ) → have_values (v ∷ vs) ≡ true → block ≡ size (v ∷ vs) → rest < block → rest / size vs < length v.1
place_within v vs block rest h e w =
    (div-lt_iff_lt-mul {k = size vs} {x = rest} {y = length v.1} (size_positive vs (have_first v vs h).1)).1 (subst (λ n. rest < n) e w)

-- what is left of the number is one of the others' choices
pub rest_within : (v : List ℕ × List Plain) (vs : Variables) (rest : ℕ) → have_values (v ∷ vs) ≡ true → rest % size vs < size vs
rest_within v vs rest h = mod-lt rest (size_positive vs (have_first v vs h).1)

-- what is counted so far, with one variable more
pub size_next : (v : List ℕ × List Plain) (vs : Variables) (total all : ℕ) → total * size (v ∷ vs) ≡ all → total * length v.1 * size vs ≡ all
size_next v vs total all e = mul_assoc total (length v.1) (size vs) ∙ e

-- the choices of all variables are no fewer than those of the first ones
pub size_over : (v : List ℕ × List Plain) (vs : Variables) (total all : ℕ) → have_values (v ∷ vs) ≡ true → total * size (v ∷ vs) ≡ all → total * length v.1 ≤ all
size_over v vs total all h e =
    subst (λ n. total * length v.1 ≤ n) (size_next v vs total all e)
    (le-mul_of_pos_right (total * length v.1) (size_positive vs (have_first v vs h).1))

-- the place that a number has in the first variable's list
pub place_in : (v : List ℕ × List Plain) (vs all : Variables) (block rest n : ℕ) → all ≡ v ∷ vs → have_values all ≡ true → block ≡ size all → rest < block
    → n ≡ length v.1 → rest / (block / n) < length v.1
place_in v vs all block rest n e h s w l =
    let whole : have_values (v ∷ vs) ≡ true = ap have_values (sym e) ∙ h in
    let sized : block ≡ size (v ∷ vs) = s ∙ ap size e in
    rw (l, block_after v vs block whole sized) (place_within v vs block rest whole sized w)
