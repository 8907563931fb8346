-- The jobs that need another, noted one after the other.
use Rattle.std.proofs.Common.{◌≡◌, ◌≢◌, ℕ, zero, suc, ◌-◌, ◌+◌, ◌==◌, Bool, true, false, List, [], ◌∷◌, ◌++◌, Option, Some, None, length, slice_get, map, option_map, replicate, append-nil, append_assoc, ap, sym, refl, ◌∙◌, arith}
use Rattle.std.proofs.lemmas.Bool.Decides.{nat_tests}
use Rattle.std.proofs.lemmas.List.Sums.{sum_by-cons}
use Rattle.std.proofs.lemmas.Option.{slice_get-map}
use Rattle.board_counters.specs.Words.{Job, JobPlan, all_noted, changed, dependents_each, dependents_from, dependents_of, first_number, noted, sizes, times_named}
use Rattle.board_decisions.proofs.Lists.{same_some}
use Rattle.board_counters.proofs.Tallies.{get_changed}
use Rattle.status_table.proofs.Counts.{one}
use Rattle.status_table.proofs.Lists.{changed-elsewhere}

-- ---- the jobs that need another

-- what is added to a list that may be there
abbrev with : List ℕ → Option (List ℕ) → Option (List ℕ)
with more o = option_map (λ list. list ++ more) o

with-nothing : (o : Option (List ℕ)) → o ≡ with [] o
with-nothing None = refl
with-nothing (Some list) = ap (λ xs. Some xs) (sym (append-nil list))

with-both : (xs ys : List ℕ) (o : Option (List ℕ)) → with ys (with xs o) ≡ with (xs ++ ys) o
with-both xs ys None = refl
with-both xs ys (Some list) = ap (λ zs. Some zs) (append_assoc list xs ys)

noted-at : (first k j : ℕ) (needs : List ℕ) (lists : List (List ℕ)) → slice_get (noted first k needs lists) j ≡ with (replicate (times_named first j needs) k) (slice_get lists j)
noted-at first k j [] lists = with-nothing (slice_get lists j)
noted-at first k j (need ∷ needs) lists =
    noted-at first k j needs (changed lists (need - first) (λ list. list ++ k ∷ [])) ∙ by ((need - first) == j) refl
  where
    more : times_named first j (need ∷ needs) ≡ one ((need - first) == j) + times_named first j needs
    more = sum_by-cons (λ x. one ((x - first) == j)) need needs

    by : (c : Bool) → ((need - first) == j) ≡ c
        → with (replicate (times_named first j needs) k) (slice_get (changed lists (need - first) (λ list. list ++ k ∷ [])) j) ≡ with (replicate (times_named first j (need ∷ needs)) k) (slice_get lists j)
    by true here =
        let same : need - first ≡ j = grind (arith, nat_tests, here) in
        let a = more in let b = ap one here in
        let next : suc (times_named first j needs) ≡ times_named first j (need ∷ needs) = omega (arith, a, b) in
        ap (λ i. with (replicate (times_named first j needs) k) (slice_get (changed lists i (λ list. list ++ k ∷ [])) j)) same
        ∙ ap (with (replicate (times_named first j needs) k)) (get_changed lists j (λ list. list ++ k ∷ []))
        ∙ with-both (k ∷ []) (replicate (times_named first j needs) k) (slice_get lists j)
        ∙ ap (λ n. with (replicate n k) (slice_get lists j)) next
    by false here =
        let other : j ≢ need - first = λ e. other-is e here in
        let a = more in let b = ap one here in
        let same : times_named first j needs ≡ times_named first j (need ∷ needs) = omega (arith, a, b) in
        ap (with (replicate (times_named first j needs) k)) (changed-elsewhere lists (need - first) (λ list. list ++ k ∷ []) j other)
        ∙ ap (λ n. with (replicate n k) (slice_get lists j)) same
      where
        other-is : j ≡ need - first → ((need - first) == j) ≡ false → ⊥
        other-is e no_one = let bad : ((need - first) == j) ≡ true = grind (arith, nat_tests, e) in cc

all-noted-at : (first k j : ℕ) (plans : List JobPlan) (lists : List (List ℕ)) → slice_get (all_noted first k plans lists) j ≡ with (dependents_from first j k plans) (slice_get lists j)
all-noted-at first k j [] lists = with-nothing (slice_get lists j)
all-noted-at first k j (plan ∷ plans) lists =
    all-noted-at first (suc k) j plans (noted first k plan.needs lists)
    ∙ ap (with (dependents_from first j (suc k) plans)) (noted-at first k j plan.needs lists)
    ∙ with-both (replicate (times_named first j plan.needs) k) (dependents_from first j (suc k) plans) (slice_get lists j)

dependents-from : (plans : List JobPlan) (k : ℕ) (counts : List ℕ) (i : ℕ) → slice_get (dependents_each plans k counts) i ≡ option_map (λ count. dependents_of plans (k + i)) (slice_get counts i)
dependents-from plans k [] i = refl
dependents-from plans k (count ∷ counts) zero = let e : k ≡ k + 0 = omega arith in ap (λ j. Some (dependents_of plans j)) e
dependents-from plans k (count ∷ counts) (suc i) =
    let e : suc k + i ≡ k + suc i = omega arith in
    dependents-from plans (suc k) counts i ∙ ap (λ j. option_map (λ count. dependents_of plans j) (slice_get counts i)) e

-- those that are kept of the job at a place
pub dependents_there : (plans : List JobPlan) (counts : List ℕ) (i : ℕ) → slice_get (dependents_each plans 0 counts) i ≡ option_map (λ count. dependents_of plans i) (slice_get counts i)
dependents_there plans counts i =
    let e : 0 + i ≡ i = omega arith in
    dependents-from plans 0 counts i ∙ ap (λ j. option_map (λ count. dependents_of plans j) (slice_get counts i)) e

-- lists are equal that have the same item at each place
each-same : {A : Type 0} (xs ys : List A) → ((i : ℕ) → slice_get xs i ≡ slice_get ys i) → xs ≡ ys
each-same [] [] same = refl
each-same {A} (x ∷ xs) (y ∷ ys) same = ap (λ (z : A). z ∷ xs) (same_some x y (same 0)) ∙ ap (λ (zs : List A). y ∷ zs) (each-same xs ys (λ i. same (suc i)))
each-same xs ys same = absurd (cc (same 0))

-- the places after all jobs were noted, where none was before
pub noted_all : (plans : List JobPlan) (jobs : List Job) → all_noted (first_number plans) 0 plans (map (λ job. []) jobs) ≡ dependents_each plans 0 (sizes jobs)
noted_all plans jobs = each-same _ _ (λ j.
    all-noted-at (first_number plans) 0 j plans (map (λ job. []) jobs)
    ∙ ap (with (dependents_of plans j)) (slice_get-map (λ (job : Job). []) jobs j)
    ∙ by j (slice_get jobs j)
    ∙ sym (ap (option_map (λ count. dependents_of plans j)) (slice_get-map (λ (job : Job). length job.legs) jobs j))
    ∙ sym (dependents_there plans (sizes jobs) j))
  where
    by : (j : ℕ) (o : Option Job) → with (dependents_of plans j) (option_map (λ job. []) o) ≡ option_map (λ count. dependents_of plans j) (option_map (λ job. length job.legs) o)
    by j None = refl
    by j (Some job) = refl
