-- Which jobs of a run need which.
use Rattle.std.specs.Prelude.{ℕ, suc, ◌-◌, ◌==◌, List, [], ◌∷◌, ◌++◌, count_by, replicate, Option, Some, None, slice_get}
use Rattle.status_table.specs.Words.{JobPlace, JobPlan, RunPlan, changed, ◌>>=◌}
use Rattle.board_counters.specs.Counters.{first_number}

-- how often needs name the job at a place of its run, whose first has this number
abbrev pub times_named : ℕ → ℕ → List ℕ → ℕ
times_named first j needs = count_by (λ need. (need - first) == j) needs

-- the places of the jobs, from place k on, that need the job at a place, each as often as it names it
abbrev pub dependents_from : ℕ → ℕ → ℕ → List JobPlan → List ℕ
dependents_from first j k [] = []
dependents_from first j k (plan ∷ plans) =
    replicate (times_named first j plan.needs) k ++ dependents_from first j (suc k) plans

-- those of all jobs of a run
abbrev pub dependents_of : List JobPlan → ℕ → List ℕ
dependents_of plans j = dependents_from (first_number plans) j 0 plans

-- the places of those that need each of a run's jobs, from one on, of which there are as many as counts of legs
abbrev pub dependents_each : List JobPlan → ℕ → List ℕ → List (List ℕ)
dependents_each plans j [] = []
dependents_each plans j (count ∷ counts) = dependents_of plans j ∷ dependents_each plans (suc j) counts

-- the places of those that need each job, for each run
abbrev pub all_dependents : List RunPlan → List (List ℕ) → List (List (List ℕ))
all_dependents [] sizes = []
all_dependents (plan ∷ plans) [] = []
all_dependents (plan ∷ plans) (counts ∷ more) = dependents_each plan.jobs 0 counts ∷ all_dependents plans more

-- places that may be there
abbrev pub or_nobody : Option (List ℕ) → List ℕ
or_nobody None = []
or_nobody (Some places) = places

-- the places that are kept of the job at a place
abbrev pub dependents_at : List (List (List ℕ)) → JobPlace → List ℕ
dependents_at all place = or_nobody (slice_get all place.run >>= λ row. slice_get row place.job)

-- ---- how they are found

-- the places after those of a job's needs have got its own
abbrev pub noted : ℕ → ℕ → List ℕ → List (List ℕ) → List (List ℕ)
noted first k [] lists = lists
noted first k (need ∷ needs) lists = noted first k needs (changed lists (need - first) (λ list. list ++ k ∷ []))

-- the places after those of all jobs' needs, from place k on, have got theirs
abbrev pub all_noted : ℕ → ℕ → List JobPlan → List (List ℕ) → List (List ℕ)
all_noted first k [] lists = lists
all_noted first k (plan ∷ plans) lists = all_noted first (suc k) plans (noted first k plan.needs lists)
