-- How the ancestors of each job of a run are found to have ended, one job after the other.
use Rattle.std.proofs.Common.{◌≡◌, ℕ, suc, ◌+◌, ◌-◌, ◌<◌, ◌||◌, Bool, false, not, List, [], ◌∷◌, ◌++◌, Some, length, map, take, get_or, slice_get, ap, refl, ◌∙◌}
use Rattle.std.specs.List.{list_any}
use Rattle.std.proofs.Math.Seq.{take-suc}
use Rattle.std.proofs.lemmas.List.{length-map, map-append}
use Rattle.std.proofs.lemmas.List.Folds.{list_any-append}
use Rattle.plan_values.specs.Words.{JobPlan, Outcome}
use Rattle.board_decisions.specs.Ancestors.{NeedsPointBack, both, failures, lineage_at, lineage_in, lineage_of, unsuccesses}
use Rattle.board_decisions.specs.Derived.{holds_at, is_failure, is_success, some_ancestor}
use Rattle.board_decisions.specs.declared.ancestors.Lineage.{Lineage}
use Rattle.board_decisions.proofs.Backwards.{marked, marked_more}

-- ---- the needs of one job

abbrev any-of : ℕ → List Bool → List Bool → List ℕ → Bool
any-of first tests marks needs = list_any (λ need. holds_at tests need || holds_at marks need) (map (λ need. need - first) needs)

-- how some needed jobs count together
abbrev pub needed_by : ℕ → List Outcome → List Lineage → List ℕ → Lineage
needed_by first results lineages needs =
    record {
      failed = any-of first (map is_failure results) (failures lineages) needs;
      unsuccessful = any-of first (map (λ how. not (is_success how)) results) (unsuccesses lineages) needs;
    }

or-none : (a b : Bool) → a || (b || false) ≡ a || b
or-none a b = ap (λ c. a || c) (by b)
  where
    by : (c : Bool) → c || false ≡ c
    by Bool.true = refl
    by Bool.false = refl

any-more : (first : ℕ) (tests marks : List Bool) (needs : List ℕ) (i d : ℕ) → i < length needs
    → any-of first tests marks (take (suc i) needs) ≡ any-of first tests marks (take i needs) || (holds_at tests (get_or needs i d - first) || holds_at marks (get_or needs i d - first))
any-more first tests marks needs i d below =
    let test : ℕ → Bool = λ need. holds_at tests need || holds_at marks need in
    let place : ℕ → ℕ = λ need. need - first in
    ap (λ ns. list_any test (map place ns)) (take-suc needs i d below)
    ∙ ap (list_any test) (map-append place (take i needs) (get_or needs i d ∷ []))
    ∙ list_any-append test (map place (take i needs)) (place (get_or needs i d) ∷ [])
    ∙ or-none (list_any test (map place (take i needs))) (test (place (get_or needs i d)))

-- one more
pub one_needed : (first : ℕ) (results : List Outcome) (lineages : List Lineage) (needs : List ℕ) (i d : ℕ) → i < length needs
    → needed_by first results lineages (take (suc i) needs) ≡ both (needed_by first results lineages (take i needs)) (lineage_at results lineages (get_or needs i d - first))
one_needed first results lineages needs i d below = λ k. record {
  failed = any-more first (map is_failure results) (failures lineages) needs i d below k;
  unsuccessful = any-more first (map (λ how. not (is_success how)) results) (unsuccesses lineages) needs i d below k;
}

-- ---- the jobs of a run

-- it is found of each job before the one at place n how its ancestors ended
pub record Found (first : ℕ) (jobs : List JobPlan) (results : List Outcome) (lineages : List Lineage) (n : ℕ) : Type 0 where
  pub failed : (k : ℕ) → k < n → holds_at (failures lineages) k ≡ some_ancestor first jobs (map is_failure results) (length jobs) k
  pub unsuccessful : (k : ℕ) → k < n → holds_at (unsuccesses lineages) k ≡ some_ancestor first jobs (map (λ how. not (is_success how)) results) (length jobs) k

module _ (first : ℕ) (jobs : List JobPlan) (back : NeedsPointBack first jobs) (results : List Outcome) (lineages : List Lineage) (k : ℕ) (job : JobPlan)
    (there : slice_get jobs k ≡ Some job) (below : k < length jobs) (found : Found first jobs results lineages k) where
  -- the one at place n
  pub found_here : lineage_of first results lineages job ≡ lineage_in first jobs results k
  found_here = λ i. record {
    failed = marked first jobs back (map is_failure results) (failures lineages) (length jobs) k job below there found.failed i;
    unsuccessful = marked first jobs back (map (λ how. not (is_success how)) results) (unsuccesses lineages) (length jobs) k job below there found.unsuccessful i;
  }

  -- one job more
  pub found_more : (lineage : Lineage) → length lineages ≡ k → lineage ≡ lineage_of first results lineages job → Found first jobs results (lineages ++ lineage ∷ []) (k + 1)
  found_more lineage size is = record {
    failed = λ i less.
        ap (λ (marks : List Bool). holds_at marks i) (map-append (λ (x : Lineage). x.failed) lineages (lineage ∷ []))
        ∙ marked_more first jobs back (map is_failure results) (failures lineages) k job lineage.failed below there
        (length-map lineages (λ (x : Lineage). x.failed) ∙ size) found.failed (ap (λ (x : Lineage). x.failed) is) i less;
    unsuccessful = λ i less.
        ap (λ (marks : List Bool). holds_at marks i) (map-append (λ (x : Lineage). x.unsuccessful) lineages (lineage ∷ []))
        ∙ marked_more first jobs back (map (λ how. not (is_success how)) results) (unsuccesses lineages) k job lineage.unsuccessful below there
        (length-map lineages (λ (x : Lineage). x.unsuccessful) ∙ size) found.unsuccessful (ap (λ (x : Lineage). x.unsuccessful) is) i less;
  }
