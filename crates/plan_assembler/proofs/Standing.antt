-- In the order of a run a job stands once, and after all that it needs.
use Rattle.std.proofs.Common.{◌≡◌, ◌∙◌, ◌<◌, ◌≤◌, ◌+◌, ◌==◌, ◌&&◌, ℕ, zero, suc, Bool, true, false, IsTrue, nat_eq, nat_le, nat_lt, cond, List, [], ◌∷◌, ◌++◌, length, get_or, refl, ap, sym, arith}
use Rattle.std.proofs.lemmas.Bool.Decides.{nat_tests}
use Rattle.std.proofs.lemmas.Grind.{common_steps}
use Rattle.std.specs.List.{AllByRecursion, Contains, filter, list_any}
use Rattle.flow_model.specs.Rules.{ascend_between}
use Rattle.flow_model.proofs.Tests.{pair, to_le, to_lt}
use Rattle.plan_assembler.specs.Graph.{Graph}
use Rattle.plan_assembler.specs.Order.{places_of, by_stage, order_of, numbers_of}
use Rattle.plan_assembler.specs.Stages.{AreStages}
use Rattle.plan_assembler.proofs.Cycles.{falls}

-- ---- what holds of each item

pub all_weaker : {X : Type 0} (Q P : X → Type 0) → ((x : X) → Q x → P x) → (xs : List X) → AllByRecursion Q xs → AllByRecursion P xs
all_weaker Q P t [] h = tt
all_weaker Q P t (x ∷ xs) h = (t x h.0, all_weaker Q P t xs h.1)

all_append : {X : Type 0} (P : X → Type 0) (xs ys : List X) → AllByRecursion P xs → AllByRecursion P ys → AllByRecursion P (xs ++ ys)
all_append P [] ys h k = k
all_append P (x ∷ xs) ys h k = (h.0, all_append P xs ys h.1 k)

all_cond : {X : Type 0} (P : X → Type 0) (x : X) (xs : List X) (b : Bool) → P x → AllByRecursion P xs → AllByRecursion P (cond b (x ∷ xs) xs)
all_cond P x xs true h k = (h, k)
all_cond P x xs false h k = k

all_filter : {X : Type 0} (P : X → Type 0) (test : X → Bool) (xs : List X) → AllByRecursion P xs → AllByRecursion P (filter test xs)
all_filter P test [] h = tt
all_filter P test (x ∷ xs) h = all_cond P x (filter test xs) (test x) h.0 (all_filter P test xs h.1)

-- ---- the order of the stages

-- of a place from p on, which has this stage
record Stands (ss : List ℕ) (stage p k : ℕ) : Type 0 where
  pub low : p ≤ k
  pub within : k < length ss
  pub staged : get_or ss k 0 ≡ stage

-- of a place of this stage or a later one
pub record Later (ss : List ℕ) (stage k : ℕ) : Type 0 where
  pub within : k < length ss
  pub staged : stage ≤ get_or ss k 0

-- one place may stand before another: it is another one, and its stage is no greater; in one stage it is below the other
pub record May (ss : List ℕ) (j k : ℕ) : Type 0 where
  pub other : j ≡ k → ⊥
  pub staged : get_or ss j 0 ≤ get_or ss k 0
  pub below : get_or ss j 0 ≡ get_or ss k 0 → j < k

-- each place may stand before those after it
abbrev pub InOrder : List ℕ → List ℕ → Type 0
InOrder ss [] = Unit {0}
InOrder ss (j ∷ js) = AllByRecursion (May ss j) js × InOrder ss js

place_case : (ss : List ℕ) (stage p s : ℕ) (rest : List ℕ) (b : Bool) → (s == stage) ≡ b → s ≡ get_or ss p 0 → p < length ss → AllByRecursion (Stands ss stage (suc p)) rest × InOrder ss rest
    → AllByRecursion (Stands ss stage p) (cond b (p ∷ rest) rest) × InOrder ss (cond b (p ∷ rest) rest)
place_case ss stage p s rest true e is w h =
    let same : s ≡ stage = grind (arith, nat_tests) in
    let here : get_or ss p 0 ≡ stage = sym is ∙ same in (
      (record { low = omega arith; within = w; staged = here }, all_weaker (Stands ss stage (suc p)) (Stands ss stage p) (λ k t. record { low = omega (arith, t.low); within = t.within; staged = t.staged }) rest h.0),
      (all_weaker (Stands ss stage (suc p)) (May ss p) (λ k t. record { other = λ x. omega (arith, t.low, x); staged = omega (arith, here, t.staged); below = λ x. omega (arith, t.low) }) rest h.0, h.1),
    )
place_case ss stage p s rest false e is w h =
    (all_weaker (Stands ss stage (suc p)) (Stands ss stage p) (λ k t. record { low = omega (arith, t.low); within = t.within; staged = t.staged }) rest h.0, h.1)

-- the places of a stage, counted from p on
one_stage : (ss : List ℕ) (stage p : ℕ) (rest : List ℕ) → p + length rest ≡ length ss → ((i : ℕ) → get_or rest i 0 ≡ get_or ss (p + i) 0)
    → AllByRecursion (Stands ss stage p) (places_of stage p rest) × InOrder ss (places_of stage p rest)
one_stage ss stage p [] n h = (tt, tt)
one_stage ss stage p (s ∷ rest) n h =
    let first : p + 0 ≡ p = omega arith in
    let here : s ≡ get_or ss p 0 = h 0 ∙ ap (λ (k : ℕ). get_or ss k 0) first in
    let within : p < length ss = omega (arith, n) in
    let count : suc p + length rest ≡ length ss = omega (arith, n) in
    place_case ss stage p s (places_of stage (suc p) rest) (s == stage) refl here within
    (one_stage ss stage (suc p) rest count (λ i. let next : p + suc i ≡ suc p + i = omega arith in h (suc i) ∙ ap (λ (k : ℕ). get_or ss k 0) next))

order_append : (ss : List ℕ) (stage : ℕ) (xs ys : List ℕ) → AllByRecursion (Stands ss stage 0) xs → InOrder ss xs → AllByRecursion (Later ss (suc stage)) ys → InOrder ss ys → InOrder ss (xs ++ ys)
order_append ss stage [] ys h a k b = b
order_append ss stage (x ∷ xs) ys h a k b =
    let here : get_or ss x 0 ≡ stage = h.0.staged in (
      all_append (May ss x) xs ys a.0 (all_weaker (Later ss (suc stage)) (May ss x)
          (λ y t. record { other = λ e. let same : get_or ss x 0 ≡ get_or ss y 0 = ap (λ (k : ℕ). get_or ss k 0) e in omega (arith, here, same, t.staged); staged = omega (arith, here, t.staged); below = λ e. absurd (omega (arith, here, e, t.staged)) }) ys k),
      order_append ss stage xs ys h.1 a.1 k b,
    )

-- the places of so many stages
stages_in_order : (n stage : ℕ) (ss : List ℕ) → AllByRecursion (Later ss stage) (by_stage n stage ss) × InOrder ss (by_stage n stage ss)
stages_in_order zero stage ss = (tt, tt)
stages_in_order (suc n) stage ss =
    let later = stages_in_order n (suc stage) ss in
    let here = one_stage ss stage 0 ss (omega arith) (λ i. let same : i ≡ 0 + i = omega arith in ap (λ (k : ℕ). get_or ss k 0) same) in (
      all_append (Later ss stage) (places_of stage 0 ss) (by_stage n (suc stage) ss)
          (all_weaker (Stands ss stage 0) (Later ss stage) (λ k t. record { within = t.within; staged = omega (arith, t.staged) }) (places_of stage 0 ss) here.0)
          (all_weaker (Later ss (suc stage)) (Later ss stage) (λ k t. record { within = t.within; staged = omega (arith, t.staged) }) (by_stage n (suc stage) ss) later.0),
      order_append ss stage (places_of stage 0 ss) (by_stage n (suc stage) ss) here.0 here.1 later.0 later.1,
    )

kept_case : (ss : List ℕ) (test : ℕ → Bool) (j : ℕ) (js : List ℕ) (b : Bool) → AllByRecursion (May ss j) js → InOrder ss (filter test js) → InOrder ss (cond b (j ∷ filter test js) (filter test js))
kept_case ss test j js true h k = (all_filter (May ss j) test js h, k)
kept_case ss test j js false h k = k

kept_in_order : (ss : List ℕ) (test : ℕ → Bool) (js : List ℕ) → InOrder ss js → InOrder ss (filter test js)
kept_in_order ss test [] h = tt
kept_in_order ss test (j ∷ js) h = kept_case ss test j js (test j) h.0 (kept_in_order ss test js h.1)

-- the order of the chosen jobs
pub order_stands : (ss : List ℕ) (marks : List Bool) → AllByRecursion (Later ss 0) (order_of ss marks) × InOrder ss (order_of ss marks)
order_stands ss marks =
    let all = stages_in_order (length ss) 0 ss in (
      all_filter (Later ss 0) (λ j. get_or marks j false) (by_stage (length ss) 0 ss) all.0,
      kept_in_order ss (λ j. get_or marks j false) (by_stage (length ss) 0 ss) all.1,
    )

-- ---- numbers of needs

any_case : (q n : ℕ) (ns : List ℕ) (b : Bool) → nat_eq q n ≡ b → list_any (nat_eq q) (n ∷ ns) ≡ true → (list_any (nat_eq q) ns ≡ true → Contains ns q) → Contains (n ∷ ns) q
any_case q n ns true e h more = let same : n ≡ q = grind (arith, nat_tests) in (0, omega arith, same)
any_case q n ns false e h more =
    let there = more (grind (arith, common_steps)) in
    (suc there.0, omega (arith, there.1), there.2)

-- what is found among needs is one of them
pub any_contains : (q : ℕ) (ns : List ℕ) → list_any (nat_eq q) ns ≡ true → Contains ns q
any_contains q [] h = absurd (cc)
any_contains q (n ∷ ns) h = any_case q n ns (nat_eq q n) refl h (any_contains q ns)

not_needed : (g : Graph) (ss : List ℕ) (j q : ℕ) → AreStages g ss → get_or ss j 0 ≤ get_or ss q 0 → (b : Bool) → list_any (nat_eq q) (get_or g j []) ≡ b → b ≡ false
not_needed g ss j q h w true e =
    let less : get_or ss q 0 < get_or ss j 0 = falls g ss j q h (any_contains q (get_or g j []) e) in
    absurd (omega (arith, less, w))
not_needed g ss j q h w false e = refl

-- a job needs neither itself nor what stands after it
pub none_after : (g : Graph) (ss : List ℕ) (j : ℕ) (js : List ℕ) → AreStages g ss → InOrder ss (j ∷ js) → AllByRecursion (λ q. list_any (nat_eq q) (get_or g j []) ≡ false) (j ∷ js)
none_after g ss j js h o = (
  not_needed g ss j j h (omega arith) (list_any (nat_eq j) (get_or g j [])) refl,
  all_weaker (May ss j) (λ q. list_any (nat_eq q) (get_or g j []) ≡ false) (λ q m. not_needed g ss j q h m.staged (list_any (nat_eq q) (get_or g j [])) refl) js o.0,
)

none_number : (number q : ℕ) (js needs : List ℕ) (b : Bool) → list_any (nat_eq q) needs ≡ b → b ≡ false → numbers_of number (q ∷ js) needs ≡ numbers_of (suc number) js needs
none_number number q js needs true e h = absurd (cc)
none_number number q js needs false e h = rw e refl

no_numbers : (number : ℕ) (js needs : List ℕ) → AllByRecursion (λ q. list_any (nat_eq q) needs ≡ false) js → numbers_of number js needs ≡ []
no_numbers number [] needs h = refl
no_numbers number (q ∷ js) needs h = none_number number q js needs (list_any (nat_eq q) needs) refl h.0 ∙ no_numbers (suc number) js needs h.1

ascend_weaker : (low high : ℕ) (ns : List ℕ) → IsTrue (ascend_between (suc low) high ns) → IsTrue (ascend_between low high ns)
ascend_weaker low high [] h = refl
ascend_weaker low high (n ∷ ns) h = grind (arith, nat_tests, common_steps)

ascend_case : (number high : ℕ) (rest : List ℕ) (b : Bool) → number < high → IsTrue (ascend_between (suc number) high rest) → IsTrue (ascend_between number high (cond b (number ∷ rest) rest))
ascend_case number high rest true w h =
    pair (nat_le number number && nat_lt number high) (ascend_between (suc number) high rest) (pair (nat_le number number) (nat_lt number high) (to_le number number (omega arith)) (to_lt number high w)) h
ascend_case number high rest false w h = ascend_weaker number high rest h

-- the numbers of what is needed are below that of a job that stands after all of it
pub numbers_ascend : (number high : ℕ) (before after needs : List ℕ) → number + length before ≡ high → AllByRecursion (λ q. list_any (nat_eq q) needs ≡ false) after
    → IsTrue (ascend_between number high (numbers_of number (before ++ after) needs))
numbers_ascend number high [] after needs n h = ap (ascend_between number high) (no_numbers number after needs h)
numbers_ascend number high (q ∷ before) after needs n h =
    ascend_case number high (numbers_of (suc number) (before ++ after) needs) (list_any (nat_eq q) needs) (omega (arith, n)) (numbers_ascend (suc number) high before after needs (omega (arith, n)) h)
