-- The search for ancestors, and the relation that it decides.
use Rattle.std.proofs.Common.{◌≡◌, ℕ, zero, suc, ◌+◌, ◌-◌, ◌<◌, ◌≤◌, ◌&&◌, ◌||◌, Bool, true, false, not, List, [], ◌∷◌, ◌++◌, Option, Some, None, length, map, option_map, slice_get, get_or, nat_le, nat_lt, if◌then◌else◌, ◌⊎◌, inl, inr, ap, subst, sym, refl, ◌∙◌, arith}
use Rattle.std.specs.List.{list_all, list_any, Contains}
use Rattle.std.proofs.lemmas.Bool.{true≢false, cases_lt, leb-true, le-leb}
use Rattle.std.proofs.lemmas.Option.{slice_get-map}
use Rattle.plan_values.specs.Words.{JobPlan, Outcome, Status}
use Rattle.board_decisions.specs.Ancestors.{IsAncestor, need, of_need, SomeAncestor, SaysOf, NeedsPointBack, StandsAfterNeeds, any_need}
use Rattle.board_decisions.specs.Derived.{holds, holds_at, places_needed, needs_at, some_ancestor, is_success, is_failure, job_results, status_by, ancestors_status, job_status}
use Rattle.board_decisions.specs.Place.{JobAt}
use Rattle.board_decisions.proofs.Lists.{and-left, and-right, and-both, get-left}

-- ---- tests of lists

any-same : (s t : ℕ → Bool) (k : ℕ) (ns : List ℕ) → list_all (λ n. nat_lt n k) ns ≡ true → ((n : ℕ) → n < k → s n ≡ t n) → list_any s ns ≡ list_any t ns
any-same s t k [] h same = refl
any-same s t k (n ∷ ns) h same =
    let here : s n ≡ t n = same n (leb-true (suc n) k (and-left (nat_lt n k) (list_all (λ m. nat_lt m k) ns) h)) in
    let later = any-same s t k ns (and-right (nat_lt n k) (list_all (λ m. nat_lt m k) ns) h) same in
    ap (λ c. c || list_any s ns) here ∙ ap (λ c. t n || c) later

pub any-never : (ns : List ℕ) → list_any (λ n. false) ns ≡ false
any-never [] = refl
any-never (n ∷ ns) = any-never ns

or-cases : (a b : Bool) → a || b ≡ true → (a ≡ true) ⊎ (b ≡ true)
or-cases true b h = inl refl
or-cases false b h = inr h

or-left : (a b : Bool) → a ≡ true → a || b ≡ true
or-left a b h = rw h refl

or-right : (a b : Bool) → b ≡ true → a || b ≡ true
or-right true b h = refl
or-right false b h = h

any-contains : (s : ℕ → Bool) (ns : List ℕ) → list_any s ns ≡ true → (x : ℕ) × Contains ns x × (s x ≡ true)
any-contains s [] h = absurd (true≢false (sym h))
any-contains s (n ∷ ns) h = by (or-cases (s n) (list_any s ns) h) (any-contains s ns)
  where
    by : (s n ≡ true) ⊎ (list_any s ns ≡ true) → (list_any s ns ≡ true → (x : ℕ) × Contains ns x × (s x ≡ true)) → (x : ℕ) × Contains (n ∷ ns) x × (s x ≡ true)
    by (inl here) later = (n, (0, omega arith, refl), here)
    by (inr there) later =
        let found = later there in
        let at = found.1 in
        let less = at.1 in
        (found.0, (suc at.0, omega (arith, less), at.2), found.2)

contains-any : (s : ℕ → Bool) (ns : List ℕ) (k x : ℕ) → k < length ns → get_or ns k x ≡ x → s x ≡ true → list_any s ns ≡ true
contains-any s [] k x h is passes = absurd (omega (arith, h))
contains-any s (n ∷ ns) zero x h is passes = or-left (s n) (list_any s ns) (ap s is ∙ passes)
contains-any s (n ∷ ns) (suc k) x h is passes = or-right (s n) (list_any s ns) (contains-any s ns k x (omega (arith, h)) is passes)

contains-below : (ns : List ℕ) (k x most : ℕ) → k < length ns → get_or ns k x ≡ x → list_all (λ n. nat_lt n most) ns ≡ true → x < most
contains-below [] k x most h is all = absurd (omega (arith, h))
contains-below (n ∷ ns) zero x most h is all =
    subst (λ y. y < most) is (leb-true (suc n) most (and-left (nat_lt n most) (list_all (λ m. nat_lt m most) ns) all))
contains-below (n ∷ ns) (suc k) x most h is all =
    contains-below ns k x most (omega (arith, h)) is (and-right (nat_lt n most) (list_all (λ m. nat_lt m most) ns) all)

get-last : (bs : List Bool) (b : Bool) → slice_get (bs ++ b ∷ []) (length bs) ≡ Some b
get-last [] b = refl
get-last (c ∷ bs) b = get-last bs b

-- ---- needs point backwards

places_below : (first k : ℕ) (needs : List ℕ) → list_all (λ need. nat_le first need && nat_lt need (first + k)) needs ≡ true
    → list_all (λ n. nat_lt n k) (map (λ need. need - first) needs) ≡ true
places_below first k [] h = refl
places_below first k (n ∷ ns) h =
    let here = and-left (nat_le first n && nat_lt n (first + k)) (list_all (λ need. nat_le first need && nat_lt need (first + k)) ns) h in
    let least = leb-true first n (and-left (nat_le first n) (nat_lt n (first + k)) here) in
    let most = leb-true (suc n) (first + k) (and-right (nat_le first n) (nat_lt n (first + k)) here) in
    and-both (nat_lt (n - first) k) (list_all (λ m. nat_lt m k) (map (λ need. need - first) ns)) (le-leb (suc (n - first)) k (omega (arith, least, most)))
    (places_below first k ns (and-right (nat_le first n && nat_lt n (first + k)) (list_all (λ need. nat_le first need && nat_lt need (first + k)) ns) h))

module _ (first : ℕ) (jobs : List JobPlan) (back : NeedsPointBack first jobs) where
  needs_before : (k : ℕ) → list_all (λ n. nat_lt n k) (needs_at first jobs k) ≡ true
  needs_before k = by (slice_get jobs k) refl
    where
      by : (o : Option JobPlan) → slice_get jobs k ≡ o → list_all (λ n. nat_lt n k) (places_needed first o) ≡ true
      by None is = refl
      by (Some job) is = places_below first k job.needs (back k job is)

  -- the first job has no ancestors
  none_first : (tests : List Bool) (n : ℕ) → some_ancestor first jobs tests n 0 ≡ false
  none_first tests zero = refl
  none_first tests (suc n) =
      any-same (λ m. holds_at tests m || some_ancestor first jobs tests n m) (λ m. false) 0 (needs_at first jobs 0) (needs_before 0) (λ m h. absurd (omega (arith, h)))
      ∙ any-never (needs_at first jobs 0)

  -- no chain of needs is longer than as many jobs as stand before
  enough : (tests : List Bool) (n m k : ℕ) → k ≤ n → k ≤ m → some_ancestor first jobs tests n k ≡ some_ancestor first jobs tests m k
  enough tests zero m k h h' =
      let z : k ≡ 0 = omega (arith, h) in
      subst (λ i. some_ancestor first jobs tests 0 i ≡ some_ancestor first jobs tests m i) (sym z) (sym (none_first tests m))
  enough tests (suc n) zero k h h' =
      let z : k ≡ 0 = omega (arith, h') in
      subst (λ i. some_ancestor first jobs tests (suc n) i ≡ some_ancestor first jobs tests 0 i) (sym z) (none_first tests (suc n))
  enough tests (suc n) (suc m) k h h' =
      any-same (λ i. holds_at tests i || some_ancestor first jobs tests n i) (λ i. holds_at tests i || some_ancestor first jobs tests m i) k (needs_at first jobs k) (needs_before k)
      (λ i less. ap (λ c. holds_at tests i || c) (enough tests n m i (omega (arith, h, less)) (omega (arith, h', less))))

  -- a job is marked by the marks of those before it
  pub marked : (tests marks : List Bool) (n k : ℕ) (job : JobPlan) → k < n → slice_get jobs k ≡ Some job
      → ((i : ℕ) → i < k → holds_at marks i ≡ some_ancestor first jobs tests n i) → any_need first tests marks job ≡ some_ancestor first jobs tests n k
  marked tests marks zero k job h is so_far = absurd (omega (arith, h))
  marked tests marks (suc n) k job h is so_far =
      ap (list_any (λ i. holds_at tests i || holds_at marks i)) (sym (ap (places_needed first) is))
      ∙ any-same (λ i. holds_at tests i || holds_at marks i) (λ i. holds_at tests i || some_ancestor first jobs tests n i) k (needs_at first jobs k) (needs_before k)
      (λ i less. ap (λ c. holds_at tests i || c) (so_far i less ∙ enough tests (suc n) n i (omega (arith, h, less)) (omega (arith, h, less))))

  -- one job more
  pub marked_more : (tests marks : List Bool) (k : ℕ) (job : JobPlan) (mark : Bool) → k < length jobs → slice_get jobs k ≡ Some job → length marks ≡ k
      → ((i : ℕ) → i < k → holds_at marks i ≡ some_ancestor first jobs tests (length jobs) i) → mark ≡ any_need first tests marks job
      → (i : ℕ) → i < k + 1 → holds_at (marks ++ mark ∷ []) i ≡ some_ancestor first jobs tests (length jobs) i
  marked_more tests marks k job mark h is size so_far new i less = by (cases_lt i k)
    where
      by : (i < k) ⊎ (k ≤ i) → holds_at (marks ++ mark ∷ []) i ≡ some_ancestor first jobs tests (length jobs) i
      by (inl before) = ap holds (get-left marks (mark ∷ []) i (omega (arith, before, size))) ∙ so_far i before
      by (inr after) =
          let there : i ≡ length marks = omega (arith, after, less, size) in
          let last : slice_get (marks ++ mark ∷ []) i ≡ Some mark = ap (slice_get (marks ++ mark ∷ [])) there ∙ get-last marks mark in
          let k_is : k ≡ i = omega (arith, there, size) in
          ap holds last ∙ new ∙ marked tests marks (length jobs) k job h is so_far ∙ ap (some_ancestor first jobs tests (length jobs)) k_is

  -- ---- the relation

  -- what is found is an ancestor
  pub found_ancestor : (tests : List Bool) (n k : ℕ) → some_ancestor first jobs tests n k ≡ true → (a : ℕ) × IsAncestor first jobs a k × (holds_at tests a ≡ true)
  found_ancestor tests zero k h = absurd (true≢false (sym h))
  found_ancestor tests (suc n) k h =
      let found = any-contains (λ i. holds_at tests i || some_ancestor first jobs tests n i) (needs_at first jobs k) h in
      by found.0 found.1 (or-cases (holds_at tests found.0) (some_ancestor first jobs tests n found.0) found.2) (found_ancestor tests n found.0)
    where
      by : (x : ℕ) → Contains (needs_at first jobs k) x → (holds_at tests x ≡ true) ⊎ (some_ancestor first jobs tests n x ≡ true)
          → (some_ancestor first jobs tests n x ≡ true → (a : ℕ) × IsAncestor first jobs a x × (holds_at tests a ≡ true))
          → (a : ℕ) × IsAncestor first jobs a k × (holds_at tests a ≡ true)
      by x there (inl here) later = (x, need there, here)
      by x there (inr further) later = let found = later further in (found.0, of_need there found.1, found.2)

  -- each ancestor is found
  pub ancestor_found : (tests : List Bool) {a k : ℕ} (n : ℕ) → IsAncestor first jobs a k → k ≤ n → holds_at tests a ≡ true → some_ancestor first jobs tests n k ≡ true
  ancestor_found tests {a} {k} zero (need there) h holds_there =
      let less = contains-below (needs_at first jobs k) there.0 a k there.1 there.2 (needs_before k) in absurd (omega (arith, less, h))
  ancestor_found tests {a} {k} (suc n) (need there) h holds_there =
      contains-any (λ i. holds_at tests i || some_ancestor first jobs tests n i) (needs_at first jobs k) there.0 a there.1 there.2
      (or-left (holds_at tests a) (some_ancestor first jobs tests n a) holds_there)
  ancestor_found tests {a} {k} zero (of_need {n = m} there further) h holds_there =
      let less = contains-below (needs_at first jobs k) there.0 m k there.1 there.2 (needs_before k) in absurd (omega (arith, less, h))
  ancestor_found tests {a} {k} (suc n) (of_need {n = m} there further) h holds_there =
      let less = contains-below (needs_at first jobs k) there.0 m k there.1 there.2 (needs_before k) in
      contains-any (λ i. holds_at tests i || some_ancestor first jobs tests n i) (needs_at first jobs k) there.0 m there.1 there.2
      (or-right (holds_at tests m) (some_ancestor first jobs tests n m) (ancestor_found tests n further (omega (arith, less, h)) holds_there))

-- ---- what a status says

held : {T : Type 0} (t : T → Bool) (xs : List T) (a : ℕ) → holds_at (map t xs) a ≡ true → (x : T) × (slice_get xs a ≡ Some x) × (t x ≡ true)
held {T} t xs a h = by (slice_get xs a) refl (sym (ap holds (slice_get-map t xs a)) ∙ h)
  where
    by : (o : Option T) → slice_get xs a ≡ o → holds (option_map t o) ≡ true → (x : T) × (slice_get xs a ≡ Some x) × (t x ≡ true)
    by None is k = absurd (true≢false (sym k))
    by (Some x) is k = (x, is, k)

holding : {T : Type 0} (t : T → Bool) (xs : List T) (a : ℕ) (x : T) → slice_get xs a ≡ Some x → t x ≡ true → holds_at (map t xs) a ≡ true
holding t xs a x is passes = ap holds (slice_get-map t xs a ∙ ap (option_map t) is) ∙ passes

module _ (first : ℕ) (at : JobAt) (stands : StandsAfterNeeds first at) where
  abbrev found : (Outcome → Bool) → Bool
  found test = some_ancestor first at.run_plan.jobs (map test (job_results at.run)) (length at.run_plan.jobs) at.place.job

  some_found : (test : Outcome → Bool) → found test ≡ true → SomeAncestor first at test
  some_found test h =
      let ancestor = found_ancestor first at.run_plan.jobs stands.back (map test (job_results at.run)) (length at.run_plan.jobs) at.place.job h in
      let result = held test (job_results at.run) ancestor.0 ancestor.2 in
      (ancestor.0, result.0, ancestor.1, result.1, result.2)

  none_found : (test : Outcome → Bool) → found test ≡ false → (a : ℕ) (result : Outcome) → IsAncestor first at.run_plan.jobs a at.place.job
      → slice_get (job_results at.run) a ≡ Some result → test result ≡ true → ⊥
  none_found test h a result ancestor is passes =
      true≢false (sym (ancestor_found first at.run_plan.jobs stands.back (map test (job_results at.run)) (length at.run_plan.jobs) ancestor (omega (arith, stands.within))
      (holding test (job_results at.run) a result is passes)) ∙ h)

  unless : (c : Bool) → (c ≡ true → ⊥) → not c ≡ true
  unless true h = absurd (h refl)
  unless false h = refl

  otherwise : (c : Bool) → (not c ≡ true → ⊥) → c ≡ true
  otherwise true h = refl
  otherwise false h = absurd (h refl)

  by_results : (stop : at.run.stop ≡ false) (failed unsuccessful : Bool) → found is_failure ≡ failed → found (λ result. not (is_success result)) ≡ unsuccessful
      → SaysOf first at (status_by failed unsuccessful)
  by_results stop true unsuccessful f u = (stop, some_found is_failure f)
  by_results stop false true f u =
      (stop, some_found (λ result. not (is_success result)) u, λ a result ancestor is. unless (is_failure result) (none_found is_failure f a result ancestor is))
  by_results stop false false f u =
      (stop, λ a result ancestor is. otherwise (is_success result) (none_found (λ how. not (is_success how)) u a result ancestor is))

  pub status_says : SaysOf first at (job_status first at)
  status_says = by at.run.stop refl
    where
      by : (stop : Bool) → at.run.stop ≡ stop → SaysOf first at (if stop then Status.Cancelled else ancestors_status first at.run_plan.jobs (job_results at.run) at.place.job)
      by true is = is
      by false is = by_results is (found is_failure) (found (λ result. not (is_success result))) refl refl
