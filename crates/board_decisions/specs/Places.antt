-- The places of all jobs and legs, in the order of their
-- numbers. They follow from how many legs each job has.
use Rattle.std.specs.Prelude.{ℕ, zero, suc, List, [], ◌∷◌, ◌++◌, map, length}
use Rattle.plan_values.specs.Words.{Board, Job, Run}
use Rattle.board_decisions.specs.declared.place.JobPlace.{JobPlace}
use Rattle.board_decisions.specs.declared.place.LegPlace.{LegPlace}

-- the numbers below n, ascending
abbrev pub numbers : ℕ → List ℕ
numbers zero = []
numbers (suc n) = numbers n ++ n ∷ []

-- how many legs each of some jobs has
abbrev pub sizes : List Job → List ℕ
sizes jobs = map (λ job. length job.legs) jobs

-- how many legs each job of each run has
abbrev pub run_sizes : List Run → List (List ℕ)
run_sizes runs = map (λ run. sizes run.jobs) runs

-- a leg of a job of a run
abbrev pub leg_of : ℕ → ℕ → ℕ → LegPlace
leg_of run job leg = record { run = run; job = job; leg = leg }

-- the legs of a run's jobs, from one on
abbrev pub legs_from : ℕ → ℕ → List ℕ → List LegPlace
legs_from run job [] = []
legs_from run job (count ∷ counts) = map (leg_of run job) (numbers count) ++ legs_from run (suc job) counts

-- the legs of runs, from one on
abbrev pub all_legs_from : ℕ → List (List ℕ) → List LegPlace
all_legs_from run [] = []
all_legs_from run (counts ∷ more) = legs_from run 0 counts ++ all_legs_from (suc run) more

-- the legs of a board
abbrev pub leg_places : Board → List LegPlace
leg_places b = all_legs_from 0 (run_sizes b.runs)

-- a job of a run
abbrev pub job_in : ℕ → ℕ → JobPlace
job_in run job = record { run = run; job = job }

-- the jobs of runs, from one on
abbrev pub all_jobs_from : ℕ → List (List ℕ) → List JobPlace
all_jobs_from run [] = []
all_jobs_from run (counts ∷ more) = map (job_in run) (numbers (length counts)) ++ all_jobs_from (suc run) more

-- the jobs of a board
abbrev pub job_places : Board → List JobPlace
job_places b = all_jobs_from 0 (run_sizes b.runs)
