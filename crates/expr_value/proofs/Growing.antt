-- A text that grows piece by piece.
use Rattle.std.proofs.Common.{◌≡◌, ℕ, Bool, true, false, nat_le, Some, None, Option, Ok, Err, List, [], ◌++◌, length, refl, sym, ap, ◌∙◌, append_assoc, length-append, arith}
use Rattle.std.proofs.lemmas.Bool.Decides.{nat_tests}
use Rattle.std.proofs.lemmas.Bool.{cond-true, cond-false}
use Rattle.expr_value.specs.Bounded.{within, grown, grown_value}
use Rattle.expr_value.specs.Limit.{most_bytes, limited}
use Rattle.flow_model.specs.Plain.{text}
use Rattle.flow_model.specs.declared.reply.ValueFault.TheVariants.{TooLarge}

-- Past the limit, nothing is left, whatever is added.
past : (t u : List ℕ) → nat_le (length t) most_bytes ≡ false → None ≡ within (t ++ u)
past t u test =
    let longer : nat_le (length (t ++ u)) most_bytes ≡ false = grind (arith, nat_tests, length-append t u) in
    sym (cond-false (nat_le (length (t ++ u)) most_bytes) (Some (t ++ u)) None longer)

grown_by : (t u : List ℕ) (b : Bool) → nat_le (length t) most_bytes ≡ b → grown (within t) u ≡ within (t ++ u)
grown_by t u true test = ap (λ (o : Option (List ℕ)). grown o u) (cond-true (nat_le (length t) most_bytes) (Some t) None test)
grown_by t u false test = ap (λ (o : Option (List ℕ)). grown o u) (cond-false (nat_le (length t) most_bytes) (Some t) None test) ∙ past t u test

-- A text that grew to t and then by u grew to both.
pub grown_within : (t u : List ℕ) → grown (within t) u ≡ within (t ++ u)
grown_within t u = grown_by t u (nat_le (length t) most_bytes) refl

-- Adding u and then w is adding both.
pub grown_grown : (b : Option (List ℕ)) (u w : List ℕ) → grown (grown b u) w ≡ grown b (u ++ w)
grown_grown None u w = refl
grown_grown (Some t) u w = grown_within (t ++ u) w ∙ ap within (append_assoc t u w)

limited_by : (t : List ℕ) (b : Bool) → nat_le (length t) most_bytes ≡ b → grown_value (within t) ≡ limited t
limited_by t true test = ap grown_value (cond-true (nat_le (length t) most_bytes) (Some t) None test) ∙ sym (cond-true (nat_le (length t) most_bytes) (Ok (text t)) (Err TooLarge) test)
limited_by t false test = ap grown_value (cond-false (nat_le (length t) most_bytes) (Some t) None test) ∙ sym (cond-false (nat_le (length t) most_bytes) (Ok (text t)) (Err TooLarge) test)

-- A whole text that grew is one within the limit.
pub limited_grown : (t : List ℕ) → grown_value (within t) ≡ limited t
limited_grown t = limited_by t (nat_le (length t) most_bytes) refl
