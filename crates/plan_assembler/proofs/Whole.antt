-- The order of a run has each job that is taken.
use Rattle.std.proofs.Common.{◌≡◌, ◌∙◌, ◌<◌, ◌≤◌, ◌+◌, ◌==◌, ◌↔◌, ◌⊎◌, inl, inr, ℕ, zero, suc, Bool, true, false, cond, nat_eq, nat_le, max, List, [], ◌∷◌, ◌++◌, map, length, get_or, refl, ap, sym, subst, arith}
use Rattle.std.proofs.lemmas.Bool.Decides.{nat_tests}
use Rattle.std.proofs.lemmas.Grind.{common_steps}
use Rattle.std.proofs.lemmas.List.{length-map}
use Rattle.std.proofs.lemmas.List.Elements.{Contains-append_left, Contains-append_right}
use Rattle.std.proofs.lemmas.Map.Steps.{length-le_from_distinct_below}
use Rattle.std.specs.List.{AllByRecursion, Contains, IsDistinct, filter, list_any}
use Rattle.flow_model.specs.declared.flow.FlowJob.{FlowJob}
use Rattle.plan_assembler.specs.Graph.{Graph, Needs, IsGraph}
use Rattle.plan_assembler.specs.Laws.{IsTakenAt}
use Rattle.plan_assembler.specs.Layout.{graph_of, ids_of, place_of, are_needs_known, AreTaken, IsOrder}
use Rattle.plan_assembler.specs.Order.{places_of, by_stage}
use Rattle.plan_assembler.specs.Stages.{AreStages, stage_after}
use Rattle.plan_assembler.specs.declared.choice.Choice.{Choice}
use Rattle.plan_assembler.specs.declared.choice.Choice.TheVariants.{Event, Job, All}
use Rattle.plan_assembler.proofs.Cycles.{at_stage, all_differ}
use Rattle.plan_assembler.proofs.FirstJob.{marked_all, taken_closed}
use Rattle.plan_assembler.proofs.Marks.{mark_within}
use Rattle.plan_assembler.proofs.Places.{known_graph}
use Rattle.plan_assembler.proofs.Standing.{May, InOrder, order_stands}

-- ---- there are more jobs than the greatest stage

greatest_case : (f : ℕ → ℕ) (n s : ℕ) (ns : List ℕ) (b : Bool) → nat_le (stage_after (map f ns)) (suc (f n)) ≡ b → max (suc (f n)) (stage_after (map f ns)) ≡ suc s
    → (stage_after (map f ns) ≡ suc s → (k : ℕ) × Contains ns k × (f k ≡ s)) → (k : ℕ) × Contains (n ∷ ns) k × (f k ≡ s)
greatest_case f n s ns true e h more =
    let less : stage_after (map f ns) ≤ suc (f n) = grind (arith, nat_tests) in
    let here : f n ≡ s = omega (arith, less, h) in
    (n, (0, omega arith, refl), here)
greatest_case f n s ns false e h more =
    let less : suc (f n) < stage_after (map f ns) = grind (arith, nat_tests) in
    let later = more (omega (arith, less, h)) in
    (later.0, (suc later.1.0, omega (arith, later.1.1), later.1.2), later.2)

-- one of some has the stage below the one after them
greatest : (f : ℕ → ℕ) (ns : List ℕ) (s : ℕ) → stage_after (map f ns) ≡ suc s → (k : ℕ) × Contains ns k × (f k ≡ s)
greatest f [] s h = absurd (omega (arith, h))
greatest f (n ∷ ns) s h = greatest_case f n s ns (nat_le (stage_after (map f ns)) (suc (f n))) refl h (greatest f ns s)

-- these jobs have greater stages
abbrev AreAbove : Graph → List ℕ → ℕ → List ℕ → Type 0
AreAbove g ss s trail = (q : ℕ) → list_any (nat_eq q) trail ≡ true → (q < length g) × (s < get_or ss q 0)

not_above : (g : Graph) (ss : List ℕ) (s : ℕ) (trail : List ℕ) (j : ℕ) → get_or ss j 0 ≡ s → AreAbove g ss s trail → (b : Bool) → list_any (nat_eq j) trail ≡ b → b ≡ false
not_above g ss s trail j e above true h = absurd (omega (arith, e, (above j h).1))
not_above g ss s trail j e above false h = refl

one_more : (g : Graph) (ss : List ℕ) (s : ℕ) (trail : List ℕ) (j : ℕ) → j < length g → get_or ss j 0 ≡ suc s → AreAbove g ss (suc s) trail → (q : ℕ) (b : Bool) → nat_eq q j ≡ b
    → list_any (nat_eq q) (j ∷ trail) ≡ true → (q < length g) × (s < get_or ss q 0)
one_more g ss s trail j w e above q true t h =
    let same : j ≡ q = grind (arith, nat_tests) in
    subst (λ (i : ℕ). (i < length g) × (s < get_or ss i 0)) same (w, omega (arith, e))
one_more g ss s trail j w e above q false t h =
    let there = above q (grind (arith, common_steps)) in
    (there.0, omega (arith, there.1))

one_within : (g : Graph) (trail : List ℕ) (j : ℕ) → j < length g → ((q : ℕ) → list_any (nat_eq q) trail ≡ true → q < length g) → (q : ℕ) (b : Bool) → nat_eq q j ≡ b → list_any (nat_eq q) (j ∷ trail) ≡ true → q < length g
one_within g trail j w within q true t h = let same : j ≡ q = grind (arith, nat_tests) in subst (λ (i : ℕ). i < length g) same w
one_within g trail j w within q false t h = within q (grind (arith, common_steps))

-- a job has below it one of each lower stage
stage_fits : (g : Graph) (ss : List ℕ) → AreStages g ss → IsGraph g → (s : ℕ) (trail : List ℕ) (j : ℕ) → j < length g → get_or ss j 0 ≡ s → IsDistinct nat_eq trail → AreAbove g ss s trail
    → s + length trail < length g
unfolding IsDistinct
stage_fits g ss h graph zero trail j w e distinct above =
    let new : list_any (nat_eq j) trail ≡ false = not_above g ss zero trail j e above (list_any (nat_eq j) trail) refl in
    let count = length-le_from_distinct_below (j ∷ trail) (length g) (all_differ j trail new, distinct) (λ q t. one_within g trail j w (λ i u. (above i u).0) q (nat_eq q j) refl t) in
    omega (arith, count)
stage_fits g ss h graph (suc s) trail j w e distinct above =
    let new : list_any (nat_eq j) trail ≡ false = not_above g ss (suc s) trail j e above (list_any (nat_eq j) trail) refl in
    let need = greatest (λ k. get_or ss k 0) (get_or g j []) s (sym (at_stage g ss h j) ∙ e) in
    let rest = stage_fits g ss h graph s (j ∷ trail) need.0 (graph j need.0 need.1) need.2 (all_differ j trail new, distinct) (λ q t. one_more g ss s trail j w e above q (nat_eq q j) refl t) in
    omega (arith, rest)

stage_below : (g : Graph) (ss : List ℕ) (j : ℕ) → AreStages g ss → IsGraph g → j < length g → get_or ss j 0 < length g
unfolding IsDistinct
stage_below g ss j h graph w = let rest = stage_fits g ss h graph (get_or ss j 0) [] j w refl tt (λ q t. absurd (cc)) in omega (arith, rest)

-- ---- what the order has

after_one : (x : ℕ) (xs : List ℕ) (y : ℕ) → Contains xs y → Contains (x ∷ xs) y
after_one x xs y c = (suc c.0, omega (arith, c.1), c.2)

after_cond : (b : Bool) (x : ℕ) (xs : List ℕ) (y : ℕ) → Contains xs y → Contains (cond b (x ∷ xs) xs) y
after_cond true x xs y c = after_one x xs y c
after_cond false x xs y c = c

in_stage : (stage p : ℕ) (ss : List ℕ) (j : ℕ) → j < length ss → get_or ss j 0 ≡ stage → Contains (places_of stage p ss) (p + j)
in_stage stage p [] j w e = absurd (omega (arith, w))
in_stage stage p (s ∷ ss) zero w e =
    let test : (s == stage) ≡ true = grind (arith, nat_tests) in
    let at : p ≡ p + 0 = omega arith in
    rw test (0, omega arith, at)
in_stage stage p (s ∷ ss) (suc j) w e =
    let next : suc p + j ≡ p + suc j = omega arith in
    after_cond (s == stage) p (places_of stage (suc p) ss) (p + suc j) (subst (λ (k : ℕ). Contains (places_of stage (suc p) ss) k) next (in_stage stage (suc p) ss j (omega (arith, w)) e))

stages_case : (n stage : ℕ) (ss : List ℕ) (j : ℕ) (b : Bool) → nat_eq (get_or ss j 0) stage ≡ b → j < length ss → stage ≤ get_or ss j 0
    → (suc stage ≤ get_or ss j 0 → Contains (by_stage n (suc stage) ss) j) → Contains (places_of stage 0 ss ++ by_stage n (suc stage) ss) j
stages_case n stage ss j true e w low more =
    let same : get_or ss j 0 ≡ stage = grind (arith, nat_tests) in
    let at : 0 + j ≡ j = omega arith in
    Contains-append_left (places_of stage 0 ss) (by_stage n (suc stage) ss) j (subst (λ (k : ℕ). Contains (places_of stage 0 ss) k) at (in_stage stage 0 ss j w same))
stages_case n stage ss j false e w low more =
    Contains-append_right (places_of stage 0 ss) (by_stage n (suc stage) ss) j (more (grind (arith, nat_tests)))

in_stages : (n stage : ℕ) (ss : List ℕ) (j : ℕ) → j < length ss → stage ≤ get_or ss j 0 → get_or ss j 0 < stage + n → Contains (by_stage n stage ss) j
in_stages zero stage ss j w low high = absurd (omega (arith, low, high))
in_stages (suc n) stage ss j w low high =
    stages_case n stage ss j (nat_eq (get_or ss j 0) stage) refl w low (λ more. in_stages n (suc stage) ss j w more (omega (arith, high)))

kept_case : (test : ℕ → Bool) (x : ℕ) (xs : List ℕ) (j k : ℕ) → k < length (x ∷ xs) → get_or (x ∷ xs) k j ≡ j → test j ≡ true → (Contains xs j → Contains (filter test xs) j) → Contains (filter test (x ∷ xs)) j
kept_case test x xs j zero w e t more = let here : test x ≡ true = ap test e ∙ t in rw here (0, omega arith, e)
kept_case test x xs j (suc k) w e t more = after_cond (test x) x (filter test xs) j (more (k, omega (arith, w), e))

-- what passes a test is kept
kept_there : (test : ℕ → Bool) (xs : List ℕ) (j : ℕ) → Contains xs j → test j ≡ true → Contains (filter test xs) j
kept_there test [] j c t = absurd (omega (arith, c.1))
kept_there test (x ∷ xs) j c t = kept_case test x xs j c.0 c.1 c.2 t (λ d. kept_there test xs j d t)

passes_case : (test : ℕ → Bool) (x : ℕ) (xs : List ℕ) (j k : ℕ) (b : Bool) → test x ≡ b → k < length (cond b (x ∷ xs) xs) → get_or (cond b (x ∷ xs) xs) k j ≡ j → (Contains xs j → test j ≡ true) → test j ≡ true
passes_case test x xs j zero true h w e more = sym (ap test e) ∙ h
passes_case test x xs j (suc k) true h w e more = more (k, omega (arith, w), e)
passes_case test x xs j k false h w e more = more (k, w, e)

-- what is kept passes the test
kept_passes : (test : ℕ → Bool) (xs : List ℕ) (j : ℕ) → Contains (filter test xs) j → test j ≡ true
kept_passes test [] j c = absurd (omega (arith, c.1))
kept_passes test (x ∷ xs) j c = passes_case test x (filter test xs) j c.0 (test x) refl c.1 c.2 (kept_passes test xs j)

-- ---- the jobs that are taken

marks_long : (choice : Choice) (jobs : List FlowJob) (marks : List Bool) → AreTaken choice jobs marks → length marks ≡ length jobs
marks_long (Event name) jobs marks a = ap length a ∙ length-map jobs (λ _. true)
marks_long (Job id) jobs marks a = a.0 ∙ length-map jobs (λ (job : FlowJob). map (place_of (ids_of jobs)) job.needs)
marks_long All jobs marks a = ap length a ∙ length-map jobs (λ _. true)

taken_marked : (choice : Choice) (jobs : List FlowJob) (marks : List Bool) → AreTaken choice jobs marks → (j : ℕ) → (get_or marks j false ≡ true) ↔ IsTakenAt choice jobs j
taken_marked (Event name) jobs marks a j = (λ m. omega (arith, mark_within marks j m, marks_long (Event name) jobs marks a), λ w. marked_all jobs marks j a w)
taken_marked (Job id) jobs marks a j = a.1 j
taken_marked All jobs marks a j = (λ m. omega (arith, mark_within marks j m, marks_long All jobs marks a), λ w. marked_all jobs marks j a w)

pub order_is_whole : (choice : Choice) (jobs : List FlowJob) (order : List ℕ) → are_needs_known jobs ≡ true → IsOrder choice jobs order → (j : ℕ) → Contains order j ↔ IsTakenAt choice jobs j
order_is_whole choice jobs order known o j =
    let g : Graph = graph_of jobs in
    let ss : List ℕ = o.stages in
    let marks : List Bool = o.marks in
    let test : ℕ → Bool = λ k. get_or marks k false in
    let taken = taken_marked choice jobs marks o.are_taken j in
    let count : length ss ≡ length g = ap length o.are_stages ∙ length-map g _ in
    let long : length g ≡ length jobs = length-map jobs (λ (job : FlowJob). map (place_of (ids_of jobs)) job.needs) in (
      λ c. taken.0 (kept_passes test (by_stage (length ss) 0 ss) j (subst (λ (l : List ℕ). Contains l j) o.in_order c)),
      λ t.
          let m = taken.1 t in
          let within : j < length g = omega (arith, mark_within marks j m, marks_long choice jobs marks o.are_taken, long) in
          let high : get_or ss j 0 < 0 + length ss = omega (arith, stage_below g ss j o.are_stages (known_graph jobs known) within, count) in
          subst (λ (l : List ℕ). Contains l j) (sym o.in_order) (kept_there test (by_stage (length ss) 0 ss) j (in_stages (length ss) 0 ss j (omega (arith, within, count)) (omega arith) high) m),
    )

-- what a job of the order needs is in it
pub need_in_order : (choice : Choice) (jobs : List FlowJob) (order : List ℕ) → are_needs_known jobs ≡ true → IsOrder choice jobs order → (j k : ℕ) → Needs (graph_of jobs) j k → Contains order j → Contains order k
need_in_order choice jobs order known o j k n c =
    let marked = (taken_marked choice jobs o.marks o.are_taken j).1 ((order_is_whole choice jobs order known o j).0 c) in
    let next = taken_closed choice jobs o.marks o.are_taken (known_graph jobs known) j k n marked in
    (order_is_whole choice jobs order known o k).1 ((taken_marked choice jobs o.marks o.are_taken k).0 next)

-- ---- how they stand

all_at : (P : ℕ → Type 0) (js : List ℕ) (k : ℕ) → AllByRecursion P js → k < length js → P (get_or js k 0)
all_at P [] k h w = absurd (omega (arith, w))
all_at P (j ∷ js) zero h w = h.0
all_at P (j ∷ js) (suc k) h w = all_at P js k h.1 (omega (arith, w))

pair_stands : (ss js : List ℕ) (i k : ℕ) → InOrder ss js → i < k → k < length js → May ss (get_or js i 0) (get_or js k 0)
pair_stands ss [] i k h less w = absurd (omega (arith, w))
pair_stands ss (j ∷ js) i zero h less w = absurd (omega (arith, less))
pair_stands ss (j ∷ js) zero (suc k) h less w = all_at (May ss j) js k h.0 (omega (arith, w))
pair_stands ss (j ∷ js) (suc i) (suc k) h less w = pair_stands ss js i k h.1 (omega (arith, less)) (omega (arith, w))

-- a place stands before another: its stage is lower, or they have one stage and it is lower itself
abbrev pub PlacesAscend : List ℕ → ℕ → ℕ → Type 0
PlacesAscend ss j k = (get_or ss j 0 < get_or ss k 0) ⊎ ((get_or ss j 0 ≡ get_or ss k 0) × (j < k))

before_case : (ss : List ℕ) (a b : ℕ) (t : Bool) → nat_eq (get_or ss a 0) (get_or ss b 0) ≡ t → May ss a b → PlacesAscend ss a b
before_case ss a b true e m = let same : get_or ss a 0 ≡ get_or ss b 0 = grind (arith, nat_tests) in inr (same, m.below same)
before_case ss a b false e m = let low = m.staged in inl (grind (arith, nat_tests, low))

pub order_ascends : (choice : Choice) (jobs : List FlowJob) (order : List ℕ) (o : IsOrder choice jobs order) (i k : ℕ) → i < k → k < length order → PlacesAscend o.stages (get_or order i 0) (get_or order k 0)
order_ascends choice jobs order o i k less w =
    let stands : InOrder o.stages order = subst (λ (l : List ℕ). InOrder o.stages l) (sym o.in_order) (order_stands o.stages o.marks).1 in
    before_case o.stages (get_or order i 0) (get_or order k 0) (nat_eq _ _) refl (pair_stands o.stages order i k stands less w)
