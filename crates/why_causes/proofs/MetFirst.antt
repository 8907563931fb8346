-- The search for the ancestors of a job without success finds those that are met first, and no others.
use Rattle.std.proofs.Common.{◌≡◌, ◌≢◌, ◌⊎◌, inl, inr, ℕ, zero, suc, ◌+◌, ◌-◌, ◌<◌, ◌≤◌, Bool, true, false, not, ◌&&◌, List, [], ◌∷◌, ◌++◌, Option, Some, None, length, map, replicate, slice_get, get_or, nat_le, nat_lt, if◌then◌else◌, ap, subst, sym, refl, ◌∙◌, arith, true≢false}
use Rattle.std.specs.List.{Contains, list_all}
use Rattle.std.proofs.lemmas.Bool.{cases_eq, cases_lt, leb-true}
use Rattle.std.proofs.lemmas.List.Elements.{Contains-append_cases, Contains-append_left, Contains-append_right}
use Rattle.std.proofs.lemmas.Option.{slice_get_within}
use Rattle.std.proofs.lemmas.List.{length-replicate}
use Rattle.status_table.specs.Words.{Job, JobAt, JobPlan, Outcome, Run, changed, holds, holds_at, is_success, job_result, job_results, needs_at, places_needed}
use Rattle.board_decisions.specs.Ancestors.{NeedsPointBack}
use Rattle.why_causes.specs.Endings.{IsMetFirst, needed, of_needed}
use Rattle.why_facts.specs.Ancestors.{first_unsuccessful, marked, marks_after, needs_marked, succeeded_at, unmarked, unsuccessful, unsuccessful_at}
use Rattle.board_decisions.proofs.Lists.{and-left, and-right, map-get, map-past, no_some, same_some}
use Rattle.status_table.proofs.Lists.{changed-elsewhere, changed-there, length-changed}

-- ---- items of lists

pub contains_here : {T : Type 0} (x : T) (xs : List T) → Contains (x ∷ xs) x
contains_here x xs = (0, omega arith, refl)

pub contains_later : {T : Type 0} (y : T) (xs : List T) (x : T) → Contains xs x → Contains (y ∷ xs) x
contains_later y xs x h = let less = h.1 in (suc h.0, omega (arith, less), h.2)

pub contains_none : {T : Type 0} (x : T) → Contains [] x → ⊥
contains_none x h = let less = h.1 in omega (arith, less)

pub contains_cases : {T : Type 0} (y : T) (xs : List T) (x : T) → Contains (y ∷ xs) x → (y ≡ x) ⊎ Contains xs x
contains_cases y xs x h = by h.0 h.1 h.2
  where
    by : (k : ℕ) → k < length (y ∷ xs) → get_or (y ∷ xs) k x ≡ x → (y ≡ x) ⊎ Contains xs x
    by zero less is = inl is
    by (suc k) less is = inr (k, omega (arith, less), is)

pub contains_map : {S T : Type 0} (f : S → T) (xs : List S) (x : S) → Contains xs x → Contains (map f xs) (f x)
contains_map f [] x h = absurd (contains_none x h)
contains_map f (y ∷ ys) x h = elim (contains_cases y ys x h) as (λ _. Contains (f y ∷ map f ys) (f x)) [
  | inl e ↦ subst (λ z. Contains (f y ∷ map f ys) (f z)) e (contains_here (f y) (map f ys))
  | inr later ↦ contains_later (f y) (map f ys) (f x) (contains_map f ys x later)
]

pub mapped_from : {S T : Type 0} (f : S → T) (xs : List S) (y : T) → Contains (map f xs) y → (x : S) × Contains xs x × (y ≡ f x)
mapped_from f [] y h = absurd (contains_none y h)
mapped_from {S} f (z ∷ zs) y h = elim (contains_cases (f z) (map f zs) y h) as (λ _. (x : S) × Contains (z ∷ zs) x × (y ≡ f x)) [
  | inl e ↦ (z, contains_here z zs, sym e)
  | inr later ↦ let found = mapped_from f zs y later in (found.0, contains_later z zs found.0 found.1, found.2)
]

pub contains_at : {T : Type 0} (xs : List T) (k : ℕ) (x : T) → slice_get xs k ≡ Some x → Contains xs x
contains_at [] k x is = absurd (no_some x is)
contains_at (y ∷ ys) zero x is = subst (Contains (y ∷ ys)) (same_some y x is) (contains_here y ys)
contains_at (y ∷ ys) (suc k) x is = contains_later y ys x (contains_at ys k x is)

pub get_within : {T : Type 0} (xs : List T) (n : ℕ) → n < length xs → (x : T) × (slice_get xs n ≡ Some x)
get_within [] n less = absurd (omega (arith, less))
get_within (x ∷ xs) zero less = (x, refl)
get_within (x ∷ xs) (suc n) less = get_within xs n (omega (arith, less))

-- ---- marks

marked_there : (marks : List Bool) (m : ℕ) → holds_at marks m ≡ true → slice_get marks m ≡ Some true
marked_there marks m h = by (slice_get marks m) refl h
  where
    by : (o : Option Bool) → slice_get marks m ≡ o → holds o ≡ true → slice_get marks m ≡ Some true
    by None is k = absurd (true≢false (sym k))
    by (Some true) is k = is
    by (Some false) is k = absurd (true≢false (sym k))

abbrev with_mark : List Bool → ℕ → List Bool
with_mark marks n = changed marks n (λ mark. true)

mark_keeps : (marks : List Bool) (n m : ℕ) → holds_at marks m ≡ true → holds_at (with_mark marks n) m ≡ true
mark_keeps marks n m h = elim (cases_eq m n) as (λ _. holds_at (with_mark marks n) m ≡ true) [
  | inl e ↦ ap (holds_at (with_mark marks n)) e ∙ ap holds (changed-there marks n (λ mark. true) true (sym (ap (slice_get marks) e) ∙ marked_there marks m h))
  | inr apart ↦ ap holds (changed-elsewhere marks n (λ mark. true) m apart) ∙ h
]

mark_there : (marks : List Bool) (n : ℕ) → n < length marks → holds_at (with_mark marks n) n ≡ true
mark_there marks n less = let mark = get_within marks n less in ap holds (changed-there marks n (λ mark. true) mark.0 mark.1)

mark_from : (marks : List Bool) (n m : ℕ) → holds_at (with_mark marks n) m ≡ true → (m ≡ n) ⊎ (holds_at marks m ≡ true)
mark_from marks n m h = elim (cases_eq m n) as (λ _. (m ≡ n) ⊎ (holds_at marks m ≡ true)) [
  | inl e ↦ inl e
  | inr apart ↦ inr (sym (ap holds (changed-elsewhere marks n (λ mark. true) m apart)) ∙ h)
]

none_marked : (n m : ℕ) → holds_at (replicate n false) m ≡ true → ⊥
none_marked zero m h = true≢false (sym h)
none_marked (suc n) zero h = true≢false (sym h)
none_marked (suc n) (suc m) h = none_marked n m h

module _ (first : ℕ) where
  abbrev places : List ℕ → List ℕ
  places needs = map (λ need. need - first) needs

  marked_keeps : (marks : List Bool) (needs : List ℕ) (m : ℕ) → holds_at marks m ≡ true → holds_at (marked first marks needs) m ≡ true
  marked_keeps marks [] m h = h
  marked_keeps marks (n ∷ ns) m h = marked_keeps (with_mark marks (n - first)) ns m (mark_keeps marks (n - first) m h)

  all_marked : (marks : List Bool) (needs : List ℕ) (m : ℕ) → m < length marks → Contains (places needs) m → holds_at (marked first marks needs) m ≡ true
  all_marked marks [] m less h = absurd (contains_none m h)
  all_marked marks (n ∷ ns) m less h = elim (contains_cases (n - first) (places ns) m h) as (λ _. holds_at (marked first (with_mark marks (n - first)) ns) m ≡ true) [
    | inl e ↦ marked_keeps (with_mark marks (n - first)) ns m (subst (λ k. holds_at (with_mark marks k) m ≡ true) (sym e) (mark_there marks m less))
    | inr later ↦ all_marked (with_mark marks (n - first)) ns m (let size = length-changed marks (n - first) (λ mark. true) in omega (arith, less, size)) later
  ]

  marked_from : (marks : List Bool) (needs : List ℕ) (m : ℕ) → holds_at (marked first marks needs) m ≡ true → Contains (places needs) m ⊎ (holds_at marks m ≡ true)
  marked_from marks [] m h = inr h
  marked_from marks (n ∷ ns) m h = by (marked_from (with_mark marks (n - first)) ns m h)
    where
      here : (m ≡ n - first) ⊎ (holds_at marks m ≡ true) → Contains (places (n ∷ ns)) m ⊎ (holds_at marks m ≡ true)
      here (inl e) = inl (subst (λ k. Contains (places (n ∷ ns)) k) (sym e) (contains_here (n - first) (places ns)))
      here (inr before) = inr before

      by : Contains (places ns) m ⊎ (holds_at (with_mark marks (n - first)) m ≡ true) → Contains (places (n ∷ ns)) m ⊎ (holds_at marks m ≡ true)
      by (inl later) = inl (contains_later (n - first) (places ns) m later)
      by (inr now) = here (mark_from marks (n - first) m now)

  marked_size : (marks : List Bool) (needs : List ℕ) → length (marked first marks needs) ≡ length marks
  marked_size marks [] = refl
  marked_size marks (n ∷ ns) = marked_size (with_mark marks (n - first)) ns ∙ length-changed marks (n - first) (λ mark. true)

  -- needs point back
  below : (k : ℕ) (needs : List ℕ) (n : ℕ) → list_all (λ need. nat_le first need && nat_lt need (first + k)) needs ≡ true → Contains (places needs) n → n < k
  below k [] n all h = absurd (contains_none n h)
  below k (x ∷ xs) n all h =
      let here = and-left (nat_le first x && nat_lt x (first + k)) (list_all (λ need. nat_le first need && nat_lt need (first + k)) xs) all in
      let least = leb-true first x (and-left (nat_le first x) (nat_lt x (first + k)) here) in
      let most = leb-true (suc x) (first + k) (and-right (nat_le first x) (nat_lt x (first + k)) here) in
      elim (contains_cases (x - first) (places xs) n h) as (λ _. n < k) [
        | inl e ↦ omega (arith, e, least, most)
        | inr later ↦ below k xs n (and-right (nat_le first x && nat_lt x (first + k)) (list_all (λ need. nat_le first need && nat_lt need (first + k)) xs) all) later
      ]

-- ---- results

succeeded : (run : Run) (k : ℕ) → slice_get (job_results run) k ≡ Some Outcome.Success → succeeded_at run k ≡ true
succeeded run k is = by (slice_get run.jobs k) refl
  where
    by : (o : Option Job) → slice_get run.jobs k ≡ o → succeeded_at run k ≡ true
    by None there = absurd (no_some Outcome.Success (sym (map-past (job_result run) run.jobs k there) ∙ is))
    by (Some job) there =
        ap holds (map-get (λ job. is_success (job_result run job)) run.jobs k job there)
        ∙ ap is_success (same_some (job_result run job) Outcome.Success (sym (map-get (job_result run) run.jobs k job there) ∙ is))

no_success : (x : Outcome) → x ≢ Outcome.Success → is_success x ≡ false
no_success Outcome.Success apart = absurd (apart refl)
no_success Outcome.Failure apart = refl
no_success Outcome.Cancelled apart = refl
no_success Outcome.Skipped apart = refl

is_apart : (x : Outcome) → is_success x ≡ false → x ≢ Outcome.Success
is_apart x h e = true≢false (sym (ap is_success e) ∙ h)

pub a_success : (x : Outcome) → is_success x ≡ true → x ≡ Outcome.Success
a_success Outcome.Success h = refl
a_success Outcome.Failure h = absurd (true≢false (sym h))
a_success Outcome.Cancelled h = absurd (true≢false (sym h))
a_success Outcome.Skipped h = absurd (true≢false (sym h))

unsucceeded : (run : Run) (k : ℕ) (x : Outcome) → slice_get (job_results run) k ≡ Some x → x ≢ Outcome.Success → succeeded_at run k ≡ false
unsucceeded run k x is apart = by (slice_get run.jobs k) refl
  where
    by : (o : Option Job) → slice_get run.jobs k ≡ o → succeeded_at run k ≡ false
    by None there = absurd (no_some x (sym (map-past (job_result run) run.jobs k there) ∙ is))
    by (Some job) there =
        ap holds (map-get (λ job. is_success (job_result run job)) run.jobs k job there)
        ∙ ap is_success (same_some (job_result run job) x (sym (map-get (job_result run) run.jobs k job there) ∙ is))
        ∙ no_success x apart

-- a job with success is there
record Succeeds (run : Run) (k : ℕ) : Type 0 where
  within : k < length run.jobs
  is : slice_get (job_results run) k ≡ Some Outcome.Success

succeeds : (run : Run) (k : ℕ) → succeeded_at run k ≡ true → Succeeds run k
succeeds run k h = by (slice_get run.jobs k) refl
  where
    by : (o : Option Job) → slice_get run.jobs k ≡ o → Succeeds run k
    by None there = absurd (true≢false (sym h ∙ ap holds (map-past (λ job. is_success (job_result run job)) run.jobs k there)))
    by (Some job) there = record {
      within = slice_get_within run.jobs k job there;
      is = map-get (job_result run) run.jobs k job there
          ∙ ap Some (a_success (job_result run job) (sym (ap holds (map-get (λ job. is_success (job_result run job)) run.jobs k job there)) ∙ h));
    }

-- so is one without success that is within
fails : (run : Run) (k : ℕ) → k < length run.jobs → succeeded_at run k ≡ false → (x : Outcome) × (slice_get (job_results run) k ≡ Some x) × (x ≢ Outcome.Success)
fails run k less h =
    let job = get_within run.jobs k less in (
      job_result run job.0,
      map-get (job_result run) run.jobs k job.0 job.1,
      is_apart (job_result run job.0) (sym (ap holds (map-get (λ job. is_success (job_result run job)) run.jobs k job.0 job.1)) ∙ h),
    )

-- ---- the search

module _ (first : ℕ) (jobs : List JobPlan) (run : Run) where
  abbrev Met : ℕ → ℕ → Type 0
  Met a k = IsMetFirst first jobs (job_results run) a k

  -- from a job, itself without success, or by the ways up where it had success
  abbrev Way : ℕ → ℕ → Type 0
  Way m a = ((m ≡ a) × (succeeded_at run a ≡ false)) ⊎ ((succeeded_at run m ≡ true) × Met a m)

  way_of : {a k : ℕ} → Met a k → (n : ℕ) × Contains (needs_at first jobs k) n × Way n a
  way_of {a} {k} (needed {result = x} there is apart) = (a, there, inl (refl, unsucceeded run a x is apart))
  way_of {a} {k} (of_needed {n = n} there is met) = (n, there, inr (succeeded run n is, met))

  met_by : (k n a : ℕ) → n < length run.jobs → Contains (needs_at first jobs k) n → Way n a → Met a k
  met_by k n a less there (inl same) =
      let within : a < length run.jobs = subst (λ m. m < length run.jobs) same.0 less in
      let result = fails run a within same.1 in
      needed (subst (Contains (needs_at first jobs k)) same.0 there) result.1 result.2
  met_by k n a less there (inr above) = of_needed there (succeeds run n above.0).is above.1

  after_keeps : (marks : List Bool) (k m : ℕ) → holds_at marks m ≡ true → holds_at (marks_after first jobs run marks k) m ≡ true
  after_keeps marks k m h = by (holds_at marks k && succeeded_at run k) (slice_get jobs k)
    where
      by : (c : Bool) (o : Option JobPlan) → holds_at (if c then needs_marked first marks o else marks) m ≡ true
      by true None = h
      by true (Some job) = marked_keeps first marks job.needs m h
      by false o = h

  after_there : (marks : List Bool) (k m : ℕ) → holds_at marks k ≡ true → succeeded_at run k ≡ true → m < length marks → Contains (needs_at first jobs k) m
      → holds_at (marks_after first jobs run marks k) m ≡ true
  after_there marks k m here success less there = rw (here, success) (by (slice_get jobs k) there)
    where
      by : (o : Option JobPlan) → Contains (places_needed first o) m → holds_at (needs_marked first marks o) m ≡ true
      by None c = absurd (contains_none m c)
      by (Some job) c = all_marked first marks job.needs m less c

  after_from : (marks : List Bool) (k m : ℕ) → holds_at (marks_after first jobs run marks k) m ≡ true
      → ((holds_at marks k ≡ true) × (succeeded_at run k ≡ true) × Contains (needs_at first jobs k) m) ⊎ (holds_at marks m ≡ true)
  after_from marks k m h = by (holds_at marks k) (succeeded_at run k) (slice_get jobs k) refl refl h
    where
      needs : (o : Option JobPlan) → holds_at (needs_marked first marks o) m ≡ true → Contains (places_needed first o) m ⊎ (holds_at marks m ≡ true)
      needs None k = inr k
      needs (Some job) k = marked_from first marks job.needs m k

      by : (c s : Bool) (o : Option JobPlan) → holds_at marks k ≡ c → succeeded_at run k ≡ s → holds_at (if c && s then needs_marked first marks o else marks) m ≡ true
          → ((holds_at marks k ≡ true) × (succeeded_at run k ≡ true) × Contains (places_needed first o) m) ⊎ (holds_at marks m ≡ true)
      by true true o is success h = elim (needs o h) as (λ _. ((holds_at marks k ≡ true) × (succeeded_at run k ≡ true) × Contains (places_needed first o) m) ⊎ (holds_at marks m ≡ true)) [
        | inl there ↦ inl (is, success, there)
        | inr before ↦ inr before
      ]
      by true false o is success h = inr h
      by false s o is success h = inr h

  after_size : (marks : List Bool) (k : ℕ) → length (marks_after first jobs run marks k) ≡ length marks
  after_size marks k = by (holds_at marks k && succeeded_at run k) (slice_get jobs k)
    where
      by : (c : Bool) (o : Option JobPlan) → length (if c then needs_marked first marks o else marks) ≡ length marks
      by true None = refl
      by true (Some job) = marked_size first marks job.needs
      by false o = refl

  -- what is found from marked jobs
  record Reached (marks : List Bool) (k x : ℕ) : Type 0 where
    above : ℕ
    from : ℕ
    is : x ≡ first + above
    less : from < k
    mark : holds_at marks from ≡ true
    way : Way from above

  reached : (k : ℕ) (marks : List Bool) (x : ℕ) → Contains (unsuccessful first jobs run k marks) x → Reached marks k x
  reached zero marks x h = absurd (contains_none x h)
  reached (suc k) marks x h =
      elim (Contains-append_cases (unsuccessful_at first run marks k) (unsuccessful first jobs run k (marks_after first jobs run marks k)) x h) as (λ _. Reached marks (suc k) x) [
        | inl there ↦ here (holds_at marks k) (succeeded_at run k) refl refl there
        | inr later ↦ let r = reached k (marks_after first jobs run marks k) x later in before r (after_from marks k r.from r.mark)
      ]
    where
      here : (c s : Bool) → holds_at marks k ≡ c → succeeded_at run k ≡ s → Contains (if c && not s then (first + k) ∷ [] else []) x → Reached marks (suc k) x
      here true false is success there = elim (contains_cases (first + k) [] x there) as (λ _. Reached marks (suc k) x) [
        | inl e ↦ record { above = k; from = k; is = sym e; less = omega arith; mark = is; way = inl (refl, success) }
        | inr more ↦ absurd (contains_none x more)
      ]
      here true true is success there = absurd (contains_none x there)
      here false s is success there = absurd (contains_none x there)

      before : (r : Reached (marks_after first jobs run marks k) k x)
          → ((holds_at marks k ≡ true) × (succeeded_at run k ≡ true) × Contains (needs_at first jobs k) r.from) ⊎ (holds_at marks r.from ≡ true) → Reached marks (suc k) x
      before r (inl handed) =
          let less = r.less in
          let within = (succeeds run k handed.1).within in
          record {
            above = r.above;
            from = k;
            is = r.is;
            less = omega arith;
            mark = handed.0;
            way = inr (handed.1, met_by k r.from r.above (omega (arith, less, within)) handed.2 r.way);
          }
      before r (inr mark) = let less = r.less in record { above = r.above; from = r.from; is = r.is; less = omega (arith, less); mark = mark; way = r.way }

  module _ (back : NeedsPointBack first jobs) where
    earlier : (k n : ℕ) → Contains (needs_at first jobs k) n → n < k
    earlier k n there = by (slice_get jobs k) refl there
      where
        by : (o : Option JobPlan) → slice_get jobs k ≡ o → Contains (places_needed first o) n → n < k
        by None is c = absurd (contains_none n c)
        by (Some job) is c = below first k job.needs n (back k job is) c

    -- of the first jobs one is looked at, and then those before it
    step : (k : ℕ) (marks : List Bool) (a m : ℕ) → length marks ≡ length jobs → suc k ≤ length jobs → m < suc k → holds_at marks m ≡ true → Way m a
        → ((n : ℕ) → length (marks_after first jobs run marks k) ≡ length jobs → n < k → holds_at (marks_after first jobs run marks k) n ≡ true → Way n a
        → Contains (unsuccessful first jobs run k (marks_after first jobs run marks k)) (first + a))
        → Contains (unsuccessful first jobs run (suc k) marks) (first + a)
    step k marks a m size most less mark way later = by (cases_lt m k)
      where
        rest : List ℕ
        rest = unsuccessful first jobs run k (marks_after first jobs run marks k)

        size_after : length (marks_after first jobs run marks k) ≡ length jobs
        size_after = after_size marks k ∙ size

        -- it is the one that is looked at
        here : holds_at marks k ≡ true → Way k a → Contains (unsuccessful_at first run marks k ++ rest) (first + a)
        here mark_here (inl same) =
            let missed : succeeded_at run k ≡ false = subst (λ i. succeeded_at run i ≡ false) (sym same.0) same.1 in
            Contains-append_left (unsuccessful_at first run marks k) rest (first + a)
            (rw (mark_here, missed) (subst (λ i. Contains ((first + k) ∷ []) (first + i)) same.0 (contains_here (first + k) [])))
        here mark_here (inr above) =
            let next = way_of above.1 in
            let before = earlier k next.0 next.1 in
            Contains-append_right (unsuccessful_at first run marks k) rest (first + a)
            (later next.0 size_after before (after_there marks k next.0 mark_here above.0 (omega (arith, before, most, size)) next.1) next.2)

        by : (m < k) ⊎ (k ≤ m) → Contains (unsuccessful_at first run marks k ++ rest) (first + a)
        by (inl before) =
            Contains-append_right (unsuccessful_at first run marks k) rest (first + a) (later m size_after before (after_keeps marks k m mark) way)
        by (inr there) =
            let same : m ≡ k = omega (arith, less, there) in
            here (subst (λ i. holds_at marks i ≡ true) same mark) (subst (λ i. Way i a) same way)

    found : (k : ℕ) (marks : List Bool) (a m : ℕ) → length marks ≡ length jobs → k ≤ length jobs → m < k → holds_at marks m ≡ true → Way m a
        → Contains (unsuccessful first jobs run k marks) (first + a)
    found zero marks a m size most less mark way = absurd (omega (arith, less))
    found (suc k) marks a m size most less mark way =
        step k marks a m size most less mark way (λ n keeps before mark way. found k (marks_after first jobs run marks k) a n keeps (omega (arith, most)) before mark way)

-- ---- the ancestors of a job

module _ (first : ℕ) (at : JobAt) (back : NeedsPointBack first at.run_plan.jobs) (size : length at.run.jobs ≡ length at.run_plan.jobs)
    (is : slice_get at.run_plan.jobs at.place.job ≡ Some at.plan) where
  abbrev marks : List Bool
  marks = marked first (unmarked at.run_plan.jobs) at.plan.needs

  within : at.place.job < length at.run_plan.jobs
  within = slice_get_within at.run_plan.jobs at.place.job at.plan is

  needs_is : needs_at first at.run_plan.jobs at.place.job ≡ map (λ need. need - first) at.plan.needs
  needs_is = ap (places_needed first) is

  pub found_first : (x : ℕ) → Contains (first_unsuccessful first at) x → (a : ℕ) × IsMetFirst first at.run_plan.jobs (job_results at.run) a at.place.job × (x ≡ first + a)
  found_first x h = by (reached first at.run_plan.jobs at.run at.place.job marks x h)
    where
      by : Reached first at.run_plan.jobs at.run marks at.place.job x → (a : ℕ) × IsMetFirst first at.run_plan.jobs (job_results at.run) a at.place.job × (x ≡ first + a)
      by r =
          let less = r.less in
          let there = elim (marked_from first (unmarked at.run_plan.jobs) at.plan.needs r.from r.mark) as (λ _. Contains (map (λ need. need - first) at.plan.needs) r.from) [
            | inl there ↦ there
            | inr none ↦ absurd (none_marked (length at.run_plan.jobs) r.from none)
          ] in (
            r.above,
            met_by first at.run_plan.jobs at.run at.place.job r.from r.above (omega (arith, less, within, size))
                (subst (λ (ns : List ℕ). Contains ns r.from) (sym needs_is) there) r.way,
            r.is,
          )

  pub first_found : (a : ℕ) → IsMetFirst first at.run_plan.jobs (job_results at.run) a at.place.job → Contains (first_unsuccessful first at) (first + a)
  first_found a met =
      let way = way_of first at.run_plan.jobs at.run met in
      let before = earlier first at.run_plan.jobs at.run back at.place.job way.0 way.1 in
      let none : length (unmarked at.run_plan.jobs) ≡ length at.run_plan.jobs = length-replicate (length at.run_plan.jobs) false in
      found first at.run_plan.jobs at.run back at.place.job marks a way.0 (marked_size first (unmarked at.run_plan.jobs) at.plan.needs ∙ none) (omega (arith, within)) before
      (all_marked first (unmarked at.run_plan.jobs) at.plan.needs way.0 (omega (arith, before, within, none))
      (subst (λ (ns : List ℕ). Contains ns way.0) needs_is way.1)) way.2
