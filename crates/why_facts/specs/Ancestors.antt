-- The ancestors of a job that had no success: the first of them that are met on the ways up, by their numbers.
use Rattle.std.specs.Prelude.{ℕ, zero, suc, ◌+◌, ◌-◌, ◌++◌, ◌&&◌, Bool, true, false, not, List, [], ◌∷◌, length, map, replicate, Option, Some, None, slice_get, if◌then◌else◌}
use Rattle.status_table.specs.Words.{JobAt, JobPlan, Run, changed, holds_at, is_success, job_result}

-- places that are marked, where there are such
abbrev pub marked : ℕ → List Bool → List ℕ → List Bool
marked first marks [] = marks
marked first marks (need ∷ needs) = marked first (changed marks (need - first) (λ mark. true)) needs

-- the needs of the job at a place are marked
abbrev pub needs_marked : ℕ → List Bool → Option JobPlan → List Bool
needs_marked first marks None = marks
needs_marked first marks (Some job) = marked first marks job.needs

-- whether the job at a place had success
abbrev pub succeeded_at : Run → ℕ → Bool
succeeded_at run k = holds_at (map (λ job. is_success (job_result run job)) run.jobs) k

-- the job at a place, where it is marked and had no success
abbrev pub unsuccessful_at : ℕ → Run → List Bool → ℕ → List ℕ
unsuccessful_at first run marks k =
    if holds_at marks k && not (succeeded_at run k) then (first + k) ∷ [] else []

-- one that is marked and had success hands its mark on to what it needs
abbrev pub marks_after : ℕ → List JobPlan → Run → List Bool → ℕ → List Bool
marks_after first jobs run marks k =
    if holds_at marks k && succeeded_at run k then needs_marked first marks (slice_get jobs k) else marks

-- Of the first so many jobs those that are marked and had no success, the last first, where marks are handed on: these
-- are the ancestors without success that are met first.
abbrev pub unsuccessful : ℕ → List JobPlan → Run → ℕ → List Bool → List ℕ
unsuccessful first jobs run zero marks = []
unsuccessful first jobs run (suc k) marks =
    unsuccessful_at first run marks k ++ unsuccessful first jobs run k (marks_after first jobs run marks k)

-- a mark for each place, none of them set
abbrev pub unmarked : List JobPlan → List Bool
unmarked jobs = replicate (length jobs) false

-- the ancestors of a job that had no success and are met first
abbrev pub first_unsuccessful : ℕ → JobAt → List ℕ
first_unsuccessful first at =
    unsuccessful first at.run_plan.jobs at.run at.place.job (marked first (unmarked at.run_plan.jobs) at.plan.needs)
