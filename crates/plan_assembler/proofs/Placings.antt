-- What happens as jobs get their stages.
use Rattle.std.proofs.Common.{◌≡◌, ◌<◌, ◌≤◌, ◌+◌, ◌-◌, ◌∙◌, ℕ, zero, suc, Bool, true, false, List, [], ◌∷◌, map, replicate, length, get_or, Option, Some, None, unwrap_or, set, nat_eq, refl, ap, sym, arith, subst, inl, inr, ◌⊎◌}
use Rattle.std.proofs.lemmas.Grind.{common_steps}
use Rattle.std.proofs.lemmas.Bool.Decides.{nat_tests}
use Rattle.std.proofs.lemmas.List.{ext_get_or, get_or-set_same, length-replicate}
use Rattle.std.proofs.Math.ListN.{length-map, length-set, get_or-map}
use Rattle.plan_assembler.specs.Graph.{IsGraph}
use Rattle.plan_assembler.specs.Placing.{found_at, is_open, waits, count_open, AllWait, IsPlacing, Settles}
use Rattle.plan_assembler.specs.Stages.{AreStages, Stages, stage_after}
use Rattle.plan_assembler.proofs.Cycles.{stuck, bound_after}

-- who has a stage keeps it
kept : (found : List (Option ℕ)) (j s k : ℕ) → is_open found j ≡ true → is_open found k ≡ false → get_or (set found j (Some s)) k None ≡ get_or found k None
kept found j s k o c = grind (arith, common_steps)

-- who has a stage now is the job or had it before
had : (found : List (Option ℕ)) (j s i : ℕ) → is_open found j ≡ true → is_open (set found j (Some s)) i ≡ false → (b : Bool) → nat_eq i j ≡ b → (i ≡ j) ⊎ (is_open found i ≡ false)
had found j s i o oi true e = inl (grind (arith, nat_tests))
had found j s i o oi false e = inr (grind (arith, common_steps))

-- needs that have their stages see nothing of the change
none_waits : (found : List (Option ℕ)) (j s : ℕ) → is_open found j ≡ true → (ks : List ℕ) → waits found ks ≡ false → waits (set found j (Some s)) ks ≡ false
none_waits found j s o [] h = refl
none_waits found j s o (k ∷ ks) h =
    let here : is_open found k ≡ false = grind (arith, common_steps) in
    let left : waits found ks ≡ false = grind (arith, common_steps) in
    rw (kept found j s k o here, here) (none_waits found j s o ks left)

same_found : (found : List (Option ℕ)) (j s : ℕ) → is_open found j ≡ true → (ks : List ℕ) → waits found ks ≡ false → map (found_at (set found j (Some s))) ks ≡ map (found_at found) ks
same_found found j s o [] h = refl
same_found found j s o (k ∷ ks) h =
    let here : is_open found k ≡ false = grind (arith, common_steps) in
    let left : waits found ks ≡ false = grind (arith, common_steps) in
    cc (kept found j s k o here, same_found found j s o ks left)

one_fewer : (found : List (Option ℕ)) (j s : ℕ) → j < length found → is_open found j ≡ true → count_open (set found j (Some s)) + 1 ≡ count_open found
one_fewer [] j s h o = absurd (omega arith)
one_fewer (None ∷ found) zero s h o = grind (arith, common_steps)
one_fewer (Some t ∷ found) zero s h o = absurd (cc)
one_fewer (None ∷ found) (suc j) s h o = grind (arith, common_steps, one_fewer found j s (omega arith) o)
one_fewer (Some t ∷ found) (suc j) s h o = grind (arith, common_steps, one_fewer found j s (omega arith) o)

at_set : (found : List (Option ℕ)) (j s k : ℕ) → j < length found → (b : Bool) → nat_eq k j ≡ b → (found_at (set found j (Some s)) k ≡ s) ⊎ (found_at (set found j (Some s)) k ≡ found_at found k)
at_set found j s k h true e = inl (grind (arith, common_steps, nat_tests))
at_set found j s k h false e = inr (grind (arith, common_steps, nat_tests))

-- a job gets its stage
pub place_one : (g : List (List ℕ)) (found : List (Option ℕ)) (j s : ℕ) → IsPlacing g found → j < length g → is_open found j ≡ true → waits found (get_or g j []) ≡ false → s ≡ stage_after (map (found_at found) (get_or g j [])) → IsPlacing g (set found j (Some s))
place_one g found j s p h o ready e =
    let within : j < length found = omega (arith, p.one_each) in
    let fewer : count_open (set found j (Some s)) + 1 ≡ count_open found = one_fewer found j s within o in
    let before : (i : ℕ) → is_open (set found j (Some s)) i ≡ false → waits found (get_or g i []) ≡ false =
    λ i oi. elim (had found j s i o oi (nat_eq i j) refl) [ inl same ↦ ap (λ (k : ℕ). waits found (get_or g k [])) same ∙ ready | inr old ↦ p.closed i old ] in
    let least : (k : ℕ) → found_at found k ≤ length g - count_open found = λ k. omega (arith, p.bounded k) in
    let bound = bound_after (found_at found) (length g - count_open found) least (get_or g j []) in
    record {
      one_each = length-set found j (Some s) ∙ p.one_each;
      closed = λ i oi. none_waits found j s o (get_or g i []) (before i oi);
      right = λ i oi.
          let value : found_at (set found j (Some s)) i ≡ stage_after (map (found_at found) (get_or g i [])) =
          elim (had found j s i o oi (nat_eq i j) refl) [ inl same ↦ subst (λ (k : ℕ). found_at (set found j (Some s)) k ≡ stage_after (map (found_at found) (get_or g k []))) (sym same) (ap (λ (x : Option ℕ). unwrap_or x 0) (get_or-set_same found j (Some s) None within) ∙ e) | inr old ↦ ap (λ (x : Option ℕ). unwrap_or x 0) (kept found j s i o old) ∙ p.right i old ] in
          value ∙ ap stage_after (sym (same_found found j s o (get_or g i []) (before i oi)));
      bounded = λ k. elim (at_set found j s k within (nat_eq k j) refl) [ inl same ↦ omega (arith, p.bounded 0) | inr old ↦ omega (arith, p.bounded k) ];
    }

-- ---- the start and the end

none_there : (n k : ℕ) → is_open (replicate n None) k ≡ true
none_there zero k = refl
none_there (suc n) zero = refl
none_there (suc n) (suc k) = none_there n k

no_stage : (n k : ℕ) → found_at (replicate n None) k ≡ 0
no_stage zero k = refl
no_stage (suc n) zero = refl
no_stage (suc n) (suc k) = no_stage n k

all_open : (n : ℕ) → count_open (replicate n None) ≡ n
all_open zero = refl
all_open (suc n) = grind (arith, common_steps, all_open n)

pub started : (g : List (List ℕ)) (found : List (Option ℕ)) → found ≡ replicate (length g) None → IsPlacing g found
started g found e = subst (λ (l : List (Option ℕ)). IsPlacing g l) (sym e) (record {
  one_each = length-replicate (length g) None;
  closed = λ j o. absurd (cc (none_there (length g) j));
  right = λ j o. absurd (cc (none_there (length g) j));
  bounded = λ k. omega (arith, no_stage (length g) k, all_open (length g));
})

given : (ss : List ℕ) (j : ℕ) → j < length ss → is_open (map Some ss) j ≡ false
given [] j h = absurd (omega arith)
given (s ∷ ss) zero h = refl
given (s ∷ ss) (suc j) h = given ss j (omega arith)

given_at : (ss : List ℕ) (k : ℕ) → found_at (map Some ss) k ≡ get_or ss k 0
given_at [] k = refl
given_at (s ∷ ss) zero = refl
given_at (s ∷ ss) (suc k) = given_at ss k

same_map : (f h : ℕ → ℕ) → ((k : ℕ) → f k ≡ h k) → (ks : List ℕ) → map f ks ≡ map h ks
same_map f h e [] = refl
same_map f h e (k ∷ ks) = cc (e k, same_map f h e ks)

settled : (g : List (List ℕ)) (ss : List ℕ) → IsPlacing g (map Some ss) → AreStages g ss
settled g ss p =
    ext_get_or 0 ss _ (sym (length-map ss Some) ∙ p.one_each ∙ sym (length-map g _)) (λ i w.
    sym (given_at ss i) ∙ p.right i (given ss i w) ∙ ap stage_after (same_map (found_at (map Some ss)) (λ k. get_or ss k 0) (given_at ss) (get_or g i []))
    ∙ sym (get_or-map (λ needs. stage_after (map (λ k. get_or ss k 0) needs)) g i []))

-- where each job without a stage waits, all have theirs, or one needs itself
pub all_settled : (g : List (List ℕ)) (found : List (Option ℕ)) → IsPlacing g found → AllWait g found → IsGraph g → (o : Option (List ℕ)) → Settles found o → Stages g o
all_settled g found p all graph (Some ss) e = settled g ss (subst (λ (l : List (Option ℕ)). IsPlacing g l) (sym e) p)
all_settled g found p all graph None one = stuck g found all graph one.0 (omega (arith, one.1, p.one_each)) one.2
