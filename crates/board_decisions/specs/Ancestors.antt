-- The ancestors of a job, and what their results make of its status.
use Rattle.std.specs.Prelude.{◌≡◌, ℕ, ◌+◌, ◌-◌, ◌<◌, ◌&&◌, ◌||◌, Bool, true, false, not, List, map, length, Some, slice_get, nat_le, nat_lt}
use Rattle.std.specs.List.{list_all, list_any, Contains}
use Rattle.plan_values.specs.Words.{JobPlan, Outcome, Status}
use Rattle.board_decisions.specs.declared.ancestors.Lineage.{Lineage}
use Rattle.board_decisions.specs.Derived.{needs_at, holds_at, any_ancestor, is_success, is_failure, job_results}
use Rattle.board_decisions.specs.Place.{JobAt}

-- An ancestor of a job is a job that it needs, or an ancestor of one. Both are told by their places in the
-- run, whose first job has the number `first`.
pub data IsAncestor (first : ℕ) (jobs : List JobPlan) : ℕ → ℕ → Type 0 where
  need : {a k : ℕ} → Contains (needs_at first jobs k) a → IsAncestor first jobs a k
  of_need : {a n k : ℕ} → Contains (needs_at first jobs k) n → IsAncestor first jobs a n
      → IsAncestor first jobs a k

-- some ancestor of a job has a result that passes a test
abbrev pub SomeAncestor : ℕ → JobAt → (Outcome → Bool) → Type 0
SomeAncestor first at test =
    (a : ℕ) × (result : Outcome) × IsAncestor first at.run_plan.jobs a at.place.job
    × (slice_get (job_results at.run) a ≡ Some result) × (test result ≡ true)

-- each ancestor of a job has a result that passes a test
abbrev pub EachAncestor : ℕ → JobAt → (Outcome → Bool) → Type 0
EachAncestor first at test =
    (a : ℕ) (result : Outcome) → IsAncestor first at.run_plan.jobs a at.place.job
    → slice_get (job_results at.run) a ≡ Some result → test result ≡ true

-- What a status says of a job: its run was told to stop; else an ancestor failed; else each ancestor
-- succeeded; else some did not succeed, and none failed.
abbrev pub SaysOf : ℕ → JobAt → Status → Type 0
SaysOf first at Status.Cancelled = at.run.stop ≡ true
SaysOf first at Status.Failure = (at.run.stop ≡ false) × SomeAncestor first at is_failure
SaysOf first at Status.Success = (at.run.stop ≡ false) × EachAncestor first at is_success
SaysOf first at Status.Other =
    (at.run.stop ≡ false) × SomeAncestor first at (λ result. not (is_success result))
    × EachAncestor first at (λ result. not (is_failure result))

-- each job of a run needs only jobs that stand before it in the run
abbrev pub NeedsPointBack : ℕ → List JobPlan → Type 0
NeedsPointBack first jobs =
    (k : ℕ) (job : JobPlan) → slice_get jobs k ≡ Some job
    → list_all (λ need. nat_le first need && nat_lt need (first + k)) job.needs ≡ true

-- a job stands in its run, each of whose jobs stands after all that it needs
pub record StandsAfterNeeds (first : ℕ) (at : JobAt) : Type 0 where
  pub back : NeedsPointBack first at.run_plan.jobs
  pub within : at.place.job < length at.run_plan.jobs

-- ---- the search for ancestors

-- whether a job needs one that passes a test, or that was marked
abbrev pub any_need : ℕ → List Bool → List Bool → JobPlan → Bool
any_need first tests marks job =
    list_any (λ need. holds_at tests need || holds_at marks need) (map (λ need. need - first) job.needs)

-- how a result counts for whoever needs the job
abbrev pub lineage_by : Outcome → Lineage
lineage_by how = record { failed = is_failure how; unsuccessful = not (is_success how) }

-- how no ancestor counts
abbrev pub no_lineage : Lineage
no_lineage = record { failed = false; unsuccessful = false }

-- how two count together
abbrev pub both : Lineage → Lineage → Lineage
both one other =
    record { failed = one.failed || other.failed; unsuccessful = one.unsuccessful || other.unsuccessful }

-- whether each of some lineages has one that failed
abbrev pub failures : List Lineage → List Bool
failures lineages = map (λ lineage. lineage.failed) lineages

-- whether each of some lineages has one that did not succeed
abbrev pub unsuccesses : List Lineage → List Bool
unsuccesses lineages = map (λ lineage. lineage.unsuccessful) lineages

-- how the job at a place counts for whoever needs it, by the results of jobs and how the ancestors of each ended
abbrev pub lineage_at : List Outcome → List Lineage → ℕ → Lineage
lineage_at results lineages k =
    record {
      failed = holds_at (map is_failure results) k || holds_at (failures lineages) k;
      unsuccessful = holds_at (map (λ how. not (is_success how)) results) k || holds_at (unsuccesses lineages) k;
    }

-- how the ancestors of a job ended, by those that it needs and theirs
abbrev pub lineage_of : ℕ → List Outcome → List Lineage → JobPlan → Lineage
lineage_of first results lineages job =
    record {
      failed = any_need first (map is_failure results) (failures lineages) job;
      unsuccessful = any_need first (map (λ how. not (is_success how)) results) (unsuccesses lineages) job;
    }

-- how the ancestors of the job at place k ended
abbrev pub lineage_in : ℕ → List JobPlan → List Outcome → ℕ → Lineage
lineage_in first jobs results k =
    record {
      failed = any_ancestor first jobs (map is_failure results) k;
      unsuccessful = any_ancestor first jobs (map (λ how. not (is_success how)) results) k;
    }
