-- The jobs of a plan by their stages.
use Rattle.std.specs.Prelude.{◌≡◌, ◌==◌, ◌≤◌, ◌++◌, ℕ, zero, suc, List, [], ◌∷◌, map, length, get_or}
use Rattle.std.specs.List.{filter}
use Rattle.flow_model.specs.Numbers.{plan_jobs}
use Rattle.flow_model.specs.declared.plan.JobPlan.{JobPlan}
use Rattle.flow_model.specs.declared.plan.Plan.{Plan}
use Rattle.flow_model.specs.declared.plan.RunPlan.{RunPlan}
use Rattle.plan_assembler.specs.Graph.{Graph}
use Rattle.plan_assembler.specs.Stages.{AreStages, stage_after}

-- what the jobs of a plan need, by their numbers
abbrev pub plan_graph : Plan → Graph
plan_graph p = map (λ job. job.needs) (plan_jobs p)

-- each job as its run and its number, where this is the first of these runs
abbrev pub run_jobs : ℕ → List RunPlan → List (ℕ × ℕ)
run_jobs run [] = []
run_jobs run (r ∷ rs) = map (λ job. (run, job.number)) r.jobs ++ run_jobs (suc run) rs

-- the jobs of a stage, where the jobs have these stages
abbrev pub in_stage : List ℕ → List (ℕ × ℕ) → ℕ → List (ℕ × ℕ)
in_stage ss jobs stage = filter (λ job. get_or ss job.1 0 == stage) jobs

-- the jobs of so many stages, from this one on
abbrev pub stage_lists : ℕ → ℕ → List ℕ → List (ℕ × ℕ) → List (List (ℕ × ℕ))
stage_lists zero stage ss jobs = []
stage_lists (suc n) stage ss jobs = in_stage ss jobs stage ∷ stage_lists n (suc stage) ss jobs

-- For each stage, from 0 to the greatest, its jobs.
abbrev pub AreStageLists : Plan → List (List (ℕ × ℕ)) → Type 0
AreStageLists p lists = (ss : List ℕ) × (AreStages (plan_graph p) ss × (lists ≡ stage_lists (stage_after ss) 0 ss (run_jobs 0 p.runs)))

-- ---- for this crate's own use

-- the stage after those that were found
abbrev pub next_stage : List ℕ → List ℕ → ℕ
next_stage found needs = stage_after (map (λ k. get_or found k 0) needs)

-- with the stage of a job with these needs
abbrev pub with_stage : List ℕ → List ℕ → List ℕ
with_stage found needs = found ++ next_stage found needs ∷ []

-- with the stages of these jobs, each of which needs jobs before it
abbrev pub stages_from : List ℕ → Graph → List ℕ
stages_from found [] = found
stages_from found (needs ∷ g) = stages_from (found ++ next_stage found needs ∷ []) g

-- what these jobs need, by their numbers
abbrev pub needs_of : List JobPlan → Graph
needs_of jobs = map (λ job. job.needs) jobs

-- the stages that are found for the jobs of a plan
abbrev pub plan_stages : Plan → List ℕ
plan_stages p = stages_from [] (plan_graph p)

-- each of these jobs as this run and its number
abbrev pub numbered : ℕ → List JobPlan → List (ℕ × ℕ)
numbered run jobs = map (λ job. (run, job.number)) jobs

-- no stage is greater than the number of jobs
abbrev pub AreBounded : List ℕ → Type 0
AreBounded found = (k : ℕ) → get_or found k 0 ≤ length found
