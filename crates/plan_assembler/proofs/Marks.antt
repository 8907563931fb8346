-- Marking the jobs that one needs.
use Rattle.std.proofs.Common.{◌≡◌, ◌<◌, ◌∙◌, ℕ, zero, suc, Bool, true, false, List, [], ◌∷◌, ◌++◌, map, replicate, length, get_or, set, nat_eq, refl, ap, sym, arith, subst, inl, inr, ◌⊎◌}
use Rattle.std.proofs.lemmas.Grind.{common_steps}
use Rattle.std.proofs.lemmas.Bool.Decides.{nat_tests}
use Rattle.std.proofs.lemmas.List.{get_or_default, length-replicate, get_or-set_same}
use Rattle.std.proofs.Math.ListN.{length-set}
use Rattle.plan_assembler.specs.Graph.{Needs, NeedsBy}
use Rattle.plan_assembler.specs.Chosen.{IsChosen, AreChosen, AreClosed, Marking, IsNext, count_unmarked}
use Rattle.plan_assembler.proofs.Cycles.{further}

-- what a chosen job needs is chosen
chosen_need : (g : List (List ℕ)) (target j k : ℕ) → IsChosen g target j → Needs g j k → IsChosen g target k
chosen_need g target j k (inl e) n = inr ([], subst (λ (i : ℕ). Needs g i k) e n)
chosen_need g target j k (inr way) n = inr (way.0 ++ j ∷ [], further g target way.0 j k way.1 n)

mark_at : (marks : List Bool) (k j : ℕ) (b : Bool) → nat_eq j k ≡ b → get_or (set marks k true) j false ≡ true → (j ≡ k) ⊎ (get_or marks j false ≡ true)
mark_at marks k j true e h = inl (grind (arith, nat_tests))
mark_at marks k j false e h = inr (grind (arith, common_steps))

none_marked : (n j : ℕ) → get_or (replicate n false) j false ≡ false
none_marked zero j = refl
none_marked (suc n) zero = refl
none_marked (suc n) (suc j) = none_marked n j

-- as many marks as there are items, all alike
pub alike_each : {A : Type 0} (b : Bool) (xs : List A) → replicate (length xs) b ≡ map (λ _. b) xs
alike_each b [] = refl
alike_each b (x ∷ xs) = ap (λ (l : List Bool). b ∷ l) (alike_each b xs)

pub mark_first : (g : List (List ℕ)) (target : ℕ) (marks : List Bool) → target < length g → marks ≡ replicate (length g) false → Marking g target (set marks target true)
mark_first g target marks w e =
    let long : length marks ≡ length g = ap length e ∙ length-replicate (length g) false in
    let none : (j : ℕ) → get_or marks j false ≡ false = λ j. ap (λ (l : List Bool). get_or l j false) e ∙ none_marked (length g) j in
    record {
      one_each = length-set marks target true ∙ long;
      first = get_or-set_same marks target true false (omega arith);
      sound = λ j h. elim (mark_at marks target j (nat_eq j target) refl h) [ inl same ↦ inl same | inr old ↦ absurd (cc (none j)) ];
    }

pub mark_next : (g : List (List ℕ)) (target : ℕ) (marks : List Bool) (k : ℕ) → Marking g target marks → IsNext g marks k → Marking g target (set marks k true)
mark_next g target marks k m n = record {
  one_each = length-set marks k true ∙ m.one_each;
  first = grind (arith, common_steps, m.first);
  sound = λ j h. elim (mark_at marks k j (nat_eq j k) refl h) [ inl same ↦ subst (λ (i : ℕ). IsChosen g target i) (sym same) (chosen_need g target n.needer k (m.sound n.needer n.marked) n.needed) | inr old ↦ m.sound j old ];
}

pub fewer_unmarked : (marks : List Bool) (k : ℕ) → k < length marks → get_or marks k false ≡ false → count_unmarked (set marks k true) < count_unmarked marks
fewer_unmarked [] k w h = absurd (omega arith)
fewer_unmarked (false ∷ marks) zero w h = grind (arith, common_steps)
fewer_unmarked (true ∷ marks) zero w h = absurd (cc)
fewer_unmarked (false ∷ marks) (suc k) w h = grind (arith, common_steps, fewer_unmarked marks k (omega arith) h)
fewer_unmarked (true ∷ marks) (suc k) w h = grind (arith, common_steps, fewer_unmarked marks k (omega arith) h)

-- marks beyond the jobs are none
pub mark_within : (marks : List Bool) (j : ℕ) → get_or marks j false ≡ true → j < length marks
mark_within [] j h = absurd (cc)
mark_within (b ∷ marks) zero h = omega arith
mark_within (b ∷ marks) (suc j) h = omega (arith, mark_within marks j h)

one_need : (g : List (List ℕ)) (marks : List Bool) → length marks ≡ length g → AreClosed g marks → (j k : ℕ) → get_or marks j false ≡ true → Needs g j k → get_or marks k false ≡ true
one_need g marks l closed j k m n =
    subst (λ (i : ℕ). get_or marks i false ≡ true) (get_or_default (get_or g j []) n.0 0 k n.1 ∙ n.2) (closed j n.0 (omega (arith, mark_within marks j m)) m n.1)

all_needs : (g : List (List ℕ)) (marks : List Bool) → length marks ≡ length g → AreClosed g marks → (j : ℕ) (ms : List ℕ) (k : ℕ) → get_or marks j false ≡ true → NeedsBy g j ms k → get_or marks k false ≡ true
all_needs g marks l closed j [] k m n = one_need g marks l closed j k m n
all_needs g marks l closed j (i ∷ ms) k m n = all_needs g marks l closed i ms k (one_need g marks l closed j i m n.0) n.1

pub all_marked : (g : List (List ℕ)) (target : ℕ) (marks : List Bool) → Marking g target marks → AreClosed g marks → AreChosen g target marks
all_marked g target marks m closed = (m.one_each, λ j. (m.sound j, λ h. elim h [ inl same ↦ subst (λ (i : ℕ). get_or marks i false ≡ true) (sym same) m.first | inr way ↦ all_needs g marks m.one_each closed target way.0 j m.first way.1 ]))
