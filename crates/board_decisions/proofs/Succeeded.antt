-- Where each job of a run counts as a success, no ancestor of a job failed, and each succeeded.
use Rattle.std.proofs.Common.{◌≡◌, ℕ, zero, suc, ◌||◌, Bool, true, false, not, List, [], ◌∷◌, map, length, if◌then◌else◌, ap, sym, refl, ◌∙◌}
use Rattle.std.specs.List.{list_all, list_any}
use Rattle.std.proofs.lemmas.Bool.{true≢false}
use Rattle.plan_values.specs.Words.{JobPlan, Outcome, Status}
use Rattle.board_decisions.specs.Derived.{all_succeed, ancestors_status, holds_at, is_failure, is_success, job_results, job_status, needs_at, some_ancestor, status_by}
use Rattle.board_decisions.specs.Place.{JobAt}
use Rattle.board_decisions.proofs.Lists.{and-left, and-right}
use Rattle.board_decisions.proofs.Backwards.{any-never}

no-test : (t : Outcome → Bool) → ((how : Outcome) → is_success how ≡ true → t how ≡ false) → (results : List Outcome) → list_all is_success results ≡ true
    → (k : ℕ) → holds_at (map t results) k ≡ false
no-test t step [] all k = refl
no-test t step (how ∷ results) all zero = step how (and-left (is_success how) (list_all is_success results) all)
no-test t step (how ∷ results) all (suc k) = no-test t step results (and-right (is_success how) (list_all is_success results) all) k

never : (s : ℕ → Bool) (ns : List ℕ) → ((n : ℕ) → s n ≡ false) → list_any s ns ≡ false
never s ns none = (λ i. list_any (λ n. none n i) ns) ∙ any-never ns

no-ancestor : (first : ℕ) (jobs : List JobPlan) (tests : List Bool) → ((k : ℕ) → holds_at tests k ≡ false) → (n k : ℕ) → some_ancestor first jobs tests n k ≡ false
no-ancestor first jobs tests none zero k = refl
no-ancestor first jobs tests none (suc n) k = never (λ need. holds_at tests need || some_ancestor first jobs tests n need) (needs_at first jobs k)
    (λ need. ap (λ c. c || some_ancestor first jobs tests n need) (none need) ∙ no-ancestor first jobs tests none n need)

not-failed : (how : Outcome) → is_success how ≡ true → is_failure how ≡ false
not-failed Outcome.Failure h = absurd (true≢false (sym h))
not-failed how h = refl

not-unsuccessful : (how : Outcome) → is_success how ≡ true → not (is_success how) ≡ false
not-unsuccessful how h = ap not h

pub all_succeeded : (first : ℕ) (at : JobAt) → at.run.stop ≡ false → all_succeed at.run ≡ true → job_status first at ≡ Status.Success
all_succeeded first at going all =
    let results = job_results at.run in
    let jobs = at.run_plan.jobs in
    let failed = no-ancestor first jobs (map is_failure results) (no-test is_failure not-failed results all) (length jobs) at.place.job in
    let unsuccessful = no-ancestor first jobs (map (λ how. not (is_success how)) results) (no-test (λ how. not (is_success how)) not-unsuccessful results all) (length jobs) at.place.job in
    ap (λ (stop : Bool). if stop then Status.Cancelled else ancestors_status first jobs results at.place.job) going ∙ (λ i. status_by (failed i) (unsuccessful i))
