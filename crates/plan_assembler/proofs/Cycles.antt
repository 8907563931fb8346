-- Where there are stages no job needs itself, the stages are the only ones, and where each job of some waits for one of them, one needs itself.
use Rattle.std.proofs.Common.{◌≡◌, ◌≤◌, ◌<◌, ◌+◌, ◌∙◌, ℕ, zero, suc, Bool, true, false, List, [], ◌∷◌, ◌++◌, map, length, get_or, Option, nat_eq, refl, ap, sym, arith, subst}
use Rattle.std.proofs.lemmas.Grind.{common_steps}
use Rattle.std.proofs.lemmas.Bool.Decides.{nat_tests}
use Rattle.std.specs.List.{Contains, IsDistinct, AllByRecursion, list_any}
use Rattle.std.proofs.Math.ListN.{get_or-map}
use Rattle.std.proofs.lemmas.List.{ext_get_or, get_or_default, length-map}
use Rattle.std.proofs.lemmas.Map.Steps.{length-le_from_distinct_below}
use Rattle.plan_assembler.specs.Graph.{Needs, NeedsBy, HasCycle, IsGraph}
use Rattle.plan_assembler.specs.Placing.{is_open, waits, AllWait}
use Rattle.plan_assembler.specs.Stages.{AreStages, stage_after}

-- the stage after some is above each of them
above : (f : ℕ → ℕ) (ns : List ℕ) (i k : ℕ) → i < length ns → get_or ns i k ≡ k → f k < stage_after (map f ns)
above f [] i k h e = absurd (omega arith)
above f (n ∷ ns) zero k h e = rw (sym e) (omega arith)
above f (n ∷ ns) (suc i) k h e = let later : f k < stage_after (map f ns) = above f ns i k (omega arith) e in omega arith

-- and at most one above the greatest
pub bound_after : (f : ℕ → ℕ) (t : ℕ) → ((k : ℕ) → f k ≤ t) → (ks : List ℕ) → stage_after (map f ks) ≤ suc t
bound_after f t h [] = omega arith
bound_after f t h (k ∷ ks) = omega (arith, h k, bound_after f t h ks)

-- the stage of a job, by the equation that stages meet
pub at_stage : (g : List (List ℕ)) (ss : List ℕ) → AreStages g ss → (j : ℕ) → get_or ss j 0 ≡ stage_after (map (λ k. get_or ss k 0) (get_or g j []))
at_stage g ss h j = ap (λ (l : List ℕ). get_or l j 0) h ∙ get_or-map (λ needs. stage_after (map (λ k. get_or ss k 0) needs)) g j []

-- a job's stage is above those of its needs
pub falls : (g : List (List ℕ)) (ss : List ℕ) (j k : ℕ) → AreStages g ss → Needs g j k → get_or ss k 0 < get_or ss j 0
falls g ss j k h n = rw (at_stage g ss h j) (above (λ k. get_or ss k 0) (get_or g j []) n.0 k n.1 n.2)

-- what is needed by way of others has a lower stage
pub falls_by : (g : List (List ℕ)) (ss : List ℕ) → AreStages g ss → (j : ℕ) (ms : List ℕ) (k : ℕ) → NeedsBy g j ms k → get_or ss k 0 < get_or ss j 0
falls_by g ss h j [] k n = falls g ss j k h n
falls_by g ss h j (m ∷ ms) k n =
    let here : get_or ss m 0 < get_or ss j 0 = falls g ss j m h n.0 in
    let there : get_or ss k 0 < get_or ss m 0 = falls_by g ss h m ms k n.1 in
    omega arith

-- with stages no job needs itself
pub no_cycle : (g : List (List ℕ)) (ss : List ℕ) → AreStages g ss → HasCycle g → ⊥
no_cycle g ss h c = let less : get_or ss c.0 0 < get_or ss c.0 0 = falls_by g ss h c.0 c.1 c.0 c.2 in absurd (omega arith)

-- equal stages give an equal stage
pub same_after : (f h : ℕ → ℕ) (ns : List ℕ) → ((i : ℕ) → i < length ns → f (get_or ns i 0) ≡ h (get_or ns i 0)) → stage_after (map f ns) ≡ stage_after (map h ns)
same_after f h [] e = refl
same_after f h (n ∷ ns) e = let here : f n ≡ h n = e 0 (omega arith) in
    let later : stage_after (map f ns) ≡ stage_after (map h ns) = same_after f h ns (λ i w. e (suc i) (omega arith)) in
    grind (arith, here, later)

-- two lists of stages agree below each stage
agree : (g : List (List ℕ)) (ss us : List ℕ) → AreStages g ss → AreStages g us → (n j : ℕ) → get_or ss j 0 < n → get_or ss j 0 ≡ get_or us j 0
agree g ss us h k zero j b = absurd (omega arith)
agree g ss us h k (suc n) j b = at_stage g ss h j ∙ same_after (λ i. get_or ss i 0) (λ i. get_or us i 0) (get_or g j []) (λ i w.
    agree g ss us h k n (get_or (get_or g j []) i 0) (omega (arith, falls g ss j (get_or (get_or g j []) i 0) h (i, w, get_or_default (get_or g j []) i _ 0 w)))) ∙ sym (at_stage g us k j)

-- there is one list of stages at most
pub one_staging : (g : List (List ℕ)) (ss us : List ℕ) → AreStages g ss → AreStages g us → ss ≡ us
one_staging g ss us h k = ext_get_or 0 ss us (ap length h ∙ length-map g _ ∙ sym (length-map g _) ∙ sym (ap length k)) (λ j w. agree g ss us h k (suc (get_or ss j 0)) j (omega arith))

-- ---- where each of some jobs needs one of them

-- a job by way of others, and one need more
pub further : (g : List (List ℕ)) (j : ℕ) (ms : List ℕ) (k l : ℕ) → NeedsBy g j ms k → Needs g k l → NeedsBy g j (ms ++ k ∷ []) l
further g j [] k l n m = (n, m)
further g j (m ∷ ms) k l n more = (n.0, further g m ms k l n.1 more)

-- an open need, where there is one
open_first : (found : List (Option ℕ)) (n : ℕ) (ns : List ℕ) (b : Bool) → is_open found n ≡ b → waits found (n ∷ ns) ≡ true → (waits found ns ≡ true → (k : ℕ) × Contains ns k × (is_open found k ≡ true)) → (k : ℕ) × Contains (n ∷ ns) k × (is_open found k ≡ true)
open_first found n ns true e h more = (n, (0, omega arith, refl), e)
open_first found n ns false e h more =
    let next = more (grind (arith, common_steps)) in
    (next.0, (suc next.1.0, omega (arith, next.1.1), next.1.2), next.2)

open_need : (found : List (Option ℕ)) (ns : List ℕ) → waits found ns ≡ true → (k : ℕ) × Contains ns k × (is_open found k ≡ true)
open_need found [] h = absurd (cc)
open_need found (n ∷ ns) h = open_first found n ns (is_open found n) refl h (open_need found ns)

-- what is none of some differs from each of them
pub all_differ : (j : ℕ) (trail : List ℕ) → list_any (nat_eq j) trail ≡ false → AllByRecursion (λ y. nat_eq j y ≡ false) trail
all_differ j [] h = tt
all_differ j (t ∷ trail) h = (grind (arith, common_steps), all_differ j trail (grind (arith, common_steps)))

-- a job that comes again needs itself
come_again : (g : List (List ℕ)) (trail : List ℕ) (j : ℕ) → ((q : ℕ) → list_any (nat_eq q) trail ≡ true → (q < length g) × ((ms : List ℕ) × NeedsBy g q ms j)) → (b : Bool) → list_any (nat_eq j) trail ≡ b → (list_any (nat_eq j) trail ≡ false → HasCycle g) → HasCycle g
come_again g trail j behind true e more = let here = behind j e in (j, here.1.0, here.1.1)
come_again g trail j behind false e more = more e

behind_more : (g : List (List ℕ)) (trail : List ℕ) (j k : ℕ) → Needs g j k → j < length g → ((q : ℕ) → list_any (nat_eq q) trail ≡ true → (q < length g) × ((ms : List ℕ) × NeedsBy g q ms j)) → (q : ℕ) (b : Bool) → nat_eq q j ≡ b → list_any (nat_eq q) (j ∷ trail) ≡ true → (q < length g) × ((ms : List ℕ) × NeedsBy g q ms k)
behind_more g trail j k n within behind q true e h =
    let same : q ≡ j = grind (arith, nat_tests) in
    (omega arith, ([], subst (λ (i : ℕ). Needs g i k) (sym same) n))
behind_more g trail j k n within behind q false e h =
    let there = behind q (grind (arith, common_steps)) in
    (there.0, (there.1.0 ++ j ∷ [], further g q there.1.0 j k there.1.1 n))

-- following open needs for longer than there are jobs, one job comes again
walk : (g : List (List ℕ)) (found : List (Option ℕ)) → AllWait g found → IsGraph g
    → (fuel : ℕ) (trail : List ℕ) (j : ℕ) → IsDistinct nat_eq trail → ((q : ℕ) → list_any (nat_eq q) trail ≡ true → (q < length g) × ((ms : List ℕ) × NeedsBy g q ms j))
    → j < length g → is_open found j ≡ true → length g < length trail + fuel → HasCycle g
unfolding IsDistinct
walk g found all graph zero trail j distinct behind within o enough =
    absurd (omega (arith, length-le_from_distinct_below trail (length g) distinct (λ q h. (behind q h).0)))
walk g found all graph (suc fuel) trail j distinct behind within o enough =
    let next = open_need found (get_or g j []) (all j within o) in
    come_again g trail j behind (list_any (nat_eq j) trail) refl (λ new.
    walk g found all graph fuel (j ∷ trail) next.0 (all_differ j trail new, distinct)
    (λ q h. behind_more g trail j next.0 next.1 within behind q (nat_eq q j) refl h) (graph j next.0 next.1) next.2 (omega arith))

pub stuck : (g : List (List ℕ)) (found : List (Option ℕ)) → AllWait g found → IsGraph g
    → (j : ℕ) → j < length g → is_open found j ≡ true → HasCycle g
unfolding IsDistinct
stuck g found all graph j within o = walk g found all graph (suc (length g)) [] j tt (λ q h. absurd (cc)) within o (omega arith)
