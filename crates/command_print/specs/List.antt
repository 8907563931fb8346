-- What `actrun list` tells: the jobs of the plan of all workflows by their stages, or why there is no plan.
use Rattle.std.specs.Prelude.{◌≡◌, ◌==◌, ℕ, suc, ◌++◌, codes, decimal, if◌then◌else◌, List, [], ◌∷◌, flat_map, slice_get, String, Option, Some, None, Result, Ok, Err}
use Rattle.std.specs.declared.alloc.Global.{Global}
use Rattle.status_table.specs.Words.{JobPlan, Plan, RunPlan}
use Rattle.plan_assembler.specs.Staging.{AreStageLists}
use Rattle.plan_assembler.specs.declared.choice.Choice.TheVariants.{All}
use Rattle.command_io.specs.Files.{File, Content, AreRead, no_contexts}
use Rattle.command_print.specs.Planning.{ComesTo, ComesToNone}
use Rattle.command_io.specs.Stream.{Stream}
use Rattle.command_io.specs.Tell.{Answer, OrMemory, TellsOf, answer_seen}
use Rattle.command_io.specs.declared.error.CommandError.{CommandError}

-- The id of the job with this number.
abbrev pub id_in : List JobPlan → ℕ → List ℕ
id_in [] number = []
id_in (job ∷ jobs) number = if job.number == number then job.id else id_in jobs number

-- The id of the job with this number in a run, where there is one.
abbrev pub id_of : Option RunPlan → ℕ → List ℕ
id_of None number = []
id_of (Some run) number = id_in run.jobs number

-- The line of a job, which is its run and its number.
abbrev pub job_line : Plan → ℕ × ℕ → List ℕ
job_line plan job =
    codes "job " ++ (decimal job.1 ++ (codes " run " ++ (decimal job.0 ++ (codes " " ++ (id_of (slice_get plan.runs job.0) job.1 ++ codes "\n")))))

-- The line of a stage, and those of its jobs.
abbrev pub stage_lines : Plan → ℕ → List (ℕ × ℕ) → List ℕ
stage_lines plan stage jobs = (codes "stage " ++ (decimal stage ++ codes "\n")) ++ flat_map (job_line plan) jobs

-- Each stage from this one on, with its jobs after it.
abbrev pub listing : Plan → ℕ → List (List (ℕ × ℕ)) → List ℕ
listing plan stage [] = []
listing plan stage (jobs ∷ stages) = stage_lines plan stage jobs ++ listing plan (suc stage) stages

-- The text lists the jobs of a plan by their stages.
abbrev pub IsListing : Plan → List ℕ → Type 0
IsListing plan text = (stages : List (List (ℕ × ℕ))) × AreStageLists plan stages × (text ≡ listing plan 0 stages)

-- An answer to the workflows' files: their jobs by stages, or why there is no plan of all of them.
abbrev pub IsListAnswer : List Content → Answer → Type 0
IsListAnswer flows (Ok text) = (plan : Plan) × ComesTo All no_contexts flows plan × IsListing plan text
IsListAnswer flows (Err error) = ComesToNone All no_contexts flows error

-- What `list` leaves: it reads the workflows' files to their ends, and tells an answer to them.
abbrev pub ListTells : List File → List File → Stream → Stream → Stream → Stream → ℕ → Type 0
ListTells flows flows' out out' err err' status = TellsOf IsListAnswer (AreRead flows flows') out out' err err' status

-- Files come to one list at most.
abbrev pub OneListing : Type 0
OneListing = (flows : List Content) (a b : List ℕ) → IsListAnswer flows (Ok a) → IsListAnswer flows (Ok b) → a ≡ b

-- ---- what the code answers on the way; want of memory may always be answered

-- The list of the jobs, or why there is none.
abbrev pub GivesList : List Content → Result (String Global) CommandError → Type 0
GivesList flows result = OrMemory (answer_seen result) (IsListAnswer flows (answer_seen result))
