-- The needs of a run's jobs where one of these jobs comes to have ended, or no longer has: each is turned as often as it names that job.
use Rattle.std.proofs.Common.{◌≡◌, ◌≢◌, ℕ, zero, suc, ◌-◌, ◌≤◌, ◌+◌, ◌==◌, Bool, true, false, not, List, [], ◌∷◌, ◌++◌, length, map, replicate, count_by, nat_lt, if◌then◌else◌, append_assoc, ap, sym, refl, ◌∙◌, arith}
use Rattle.std.proofs.lemmas.Bool.Decides.{nat_tests}
use Rattle.std.proofs.lemmas.List.{length-append}
use Rattle.std.proofs.lemmas.List.Sums.{sum_by-cons, count_by-le-length}
use Rattle.board_counters.specs.Words.{JobPlan, Need, changed, dependents_from, dependents_of, first_number, holds_at, need_of, need_turned, needs_turned, open_among, times_named, turned}
use Rattle.status_table.proofs.Counts.{one}
use Rattle.status_table.proofs.Lists.{changed-cons}

-- ---- one need

-- how many pass a test, where some no longer do
fewer : {T : Type 0} (t u v : T → Bool) (xs : List T) → ((x : T) → u x ≡ true → t x ≡ true) → ((x : T) → u x ≡ true → v x ≡ false) → ((x : T) → u x ≡ false → v x ≡ t x)
    → count_by v xs + count_by u xs ≡ count_by t xs
fewer t u v [] was is else_same = refl
fewer {T} t u v (x ∷ xs) was is else_same = by (fewer t u v xs was is else_same) (u x) refl
  where
    all_t : count_by t (x ∷ xs) ≡ one (t x) + count_by t xs
    all_t = sum_by-cons (λ y. one (t y)) x xs

    all_u : count_by u (x ∷ xs) ≡ one (u x) + count_by u xs
    all_u = sum_by-cons (λ y. one (u y)) x xs

    all_v : count_by v (x ∷ xs) ≡ one (v x) + count_by v xs
    all_v = sum_by-cons (λ y. one (v y)) x xs

    by : count_by v xs + count_by u xs ≡ count_by t xs → (c : Bool) → u x ≡ c → count_by v (x ∷ xs) + count_by u (x ∷ xs) ≡ count_by t (x ∷ xs)
    by later true here =
        let a = ap one (was x here) in let b = ap one (is x here) in let c = ap one here in
        let d = all_t in let e = all_u in let f = all_v in
        omega (arith, a, b, c, d, e, f, later)
    by later false here =
        let a = ap one (else_same x here) in let c = ap one here in
        let d = all_t in let e = all_u in let f = all_v in
        omega (arith, a, c, d, e, f, later)

-- so many times the same
times : {A : Type 0} → ℕ → (A → A) → A → A
times zero f x = x
times (suc n) f x = times n f (f x)

fall : (all n p : ℕ) → times n (λ k. turned all k true false) p ≡ p - n
unfolding times
fall all zero p = omega arith
fall all (suc n) p = fall all n (p - 1) ∙ omega arith

rise : (all n p : ℕ) → p + n ≤ all → times n (λ k. turned all k false true) p ≡ p + n
unfolding times
rise all zero p room = omega arith
rise all (suc n) p room =
    let more : nat_lt p all ≡ true = grind (arith, nat_tests, room) in
    ap (λ c. times n (λ k. turned all k false true) (if c then suc p else p)) more ∙ rise all n (suc p) (omega (arith, room)) ∙ omega arith

turned-times : (was is : Bool) (n : ℕ) (need : Need) → times n (need_turned was is) need ≡ record need { pending = times n (λ k. turned need.all k was is) need.pending }
unfolding times
turned-times was is zero need = refl
turned-times was is (suc n) need = turned-times was is n (need_turned was is need)

-- One job of a run comes to have ended, or no longer has: which it is, and that the others stay.
pub record Settles (before after : List Bool) (j : ℕ) : Type 0 where
  pub was : holds_at before j ≡ false
  pub is : holds_at after j ≡ true
  pub others : (i : ℕ) → i ≢ j → holds_at after i ≡ holds_at before i

open-falls : (first j : ℕ) (before after : List Bool) (needs : List ℕ) → Settles before after j
    → open_among first after needs + times_named first j needs ≡ open_among first before needs
open-falls first j before after needs settles =
    fewer (λ need. not (holds_at before (need - first))) (λ need. (need - first) == j) (λ need. not (holds_at after (need - first))) needs
    (λ need here. ap (λ i. not (holds_at before i)) (same need here) ∙ ap not settles.was)
    (λ need here. ap (λ i. not (holds_at after i)) (same need here) ∙ ap not settles.is)
    (λ need here. ap not (settles.others (need - first) (other need here)))
  where
    same : (need : ℕ) → ((need - first) == j) ≡ true → need - first ≡ j
    same need here = grind (arith, nat_tests, here)

    other : (need : ℕ) → ((need - first) == j) ≡ false → need - first ≢ j
    other need here e = let bad : ((need - first) == j) ≡ true = grind (arith, nat_tests, e) in cc

-- the need of a job after as many steps as it names the one that has ended
need-falls : (first j : ℕ) (before after : List Bool) (plan : JobPlan) → Settles before after j
    → times (times_named first j plan.needs) (need_turned true false) (need_of first before plan) ≡ need_of first after plan
need-falls first j before after plan settles =
    let n = times_named first j plan.needs in
    let counted = open-falls first j before after plan.needs settles in
    let left : open_among first before plan.needs - n ≡ open_among first after plan.needs = omega (arith, counted) in
    turned-times true false n (need_of first before plan)
    ∙ ap (λ (k : ℕ). record { all = length plan.needs; pending = k }) (fall (length plan.needs) n (open_among first before plan.needs) ∙ left)

need-rises : (first j : ℕ) (before after : List Bool) (plan : JobPlan) → Settles after before j
    → times (times_named first j plan.needs) (need_turned false true) (need_of first before plan) ≡ need_of first after plan
need-rises first j before after plan settles =
    let n = times_named first j plan.needs in
    let counted = open-falls first j after before plan.needs settles in
    let most = count_by-le-length (λ need. not (holds_at after (need - first))) plan.needs in
    let room : open_among first before plan.needs + n ≤ length plan.needs = omega (arith, counted, most) in
    turned-times false true n (need_of first before plan)
    ∙ ap (λ (k : ℕ). record { all = length plan.needs; pending = k }) (rise (length plan.needs) n (open_among first before plan.needs) room ∙ counted)

-- ---- the needs of a run's jobs

turned-append : (was is : Bool) (xs ys : List ℕ) (needs : List Need) → needs_turned was is (xs ++ ys) needs ≡ needs_turned was is ys (needs_turned was is xs needs)
turned-append was is [] ys needs = refl
turned-append was is (x ∷ xs) ys needs = turned-append was is xs ys (changed needs x (need_turned was is))

changed-between : {T : Type 0} (front : List T) (x : T) (rest : List T) (f : T → T) → changed (front ++ x ∷ rest) (length front) f ≡ front ++ f x ∷ rest
changed-between [] x rest f = refl
changed-between (y ∷ front) x rest f = changed-cons y (front ++ x ∷ rest) (length front) f ∙ ap (λ zs. y ∷ zs) (changed-between front x rest f)

turned-here : (was is : Bool) (n : ℕ) (front : List Need) (x : Need) (rest : List Need)
    → needs_turned was is (replicate n (length front)) (front ++ x ∷ rest) ≡ front ++ times n (need_turned was is) x ∷ rest
unfolding times
turned-here was is zero front x rest = refl
turned-here was is (suc n) front x rest =
    ap (needs_turned was is (replicate n (length front))) (changed-between front x rest (need_turned was is)) ∙ turned-here was is n front (need_turned was is x) rest

-- each need is turned as often as its job is among the dependents
turned-all : (was is : Bool) (first j : ℕ) (before after : List Bool) (front : List Need) (plans : List JobPlan)
    → ((plan : JobPlan) → times (times_named first j plan.needs) (need_turned was is) (need_of first before plan) ≡ need_of first after plan)
    → needs_turned was is (dependents_from first j (length front) plans) (front ++ map (need_of first before) plans) ≡ front ++ map (need_of first after) plans
turned-all was is first j before after front [] one_turned = refl
turned-all was is first j before after front (plan ∷ plans) one_turned =
    let n = times_named first j plan.needs in
    let y = need_of first after plan in
    let rest = map (need_of first before) plans in
    let size : suc (length front) ≡ length (front ++ y ∷ []) = let a = length-append front (y ∷ []) in omega (arith, a) in
    turned-append was is (replicate n (length front)) (dependents_from first j (suc (length front)) plans) (front ++ need_of first before plan ∷ rest)
    ∙ ap (needs_turned was is (dependents_from first j (suc (length front)) plans))
    (turned-here was is n front (need_of first before plan) rest ∙ ap (λ (z : Need). front ++ z ∷ rest) (one_turned plan) ∙ sym (append_assoc front (y ∷ []) rest))
    ∙ ap (λ k. needs_turned was is (dependents_from first j k plans) ((front ++ y ∷ []) ++ rest)) size
    ∙ turned-all was is first j before after (front ++ y ∷ []) plans one_turned
    ∙ append_assoc front (y ∷ []) (map (need_of first after) plans)

pub needs_fall : (plans : List JobPlan) (j : ℕ) (before after : List Bool) → Settles before after j
    → needs_turned true false (dependents_of plans j) (map (need_of (first_number plans) before) plans) ≡ map (need_of (first_number plans) after) plans
needs_fall plans j before after settles =
    turned-all true false (first_number plans) j before after [] plans (λ plan. need-falls (first_number plans) j before after plan settles)

pub needs_rise : (plans : List JobPlan) (j : ℕ) (before after : List Bool) → Settles after before j
    → needs_turned false true (dependents_of plans j) (map (need_of (first_number plans) before) plans) ≡ map (need_of (first_number plans) after) plans
needs_rise plans j before after settles =
    turned-all false true (first_number plans) j before after [] plans (λ plan. need-rises (first_number plans) j before after plan settles)
