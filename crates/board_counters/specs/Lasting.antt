-- What is kept beside a board and stays, whatever is changed of it.
use Rattle.std.specs.Prelude.{◌≡◌, ℕ, List, Option, Some, None, slice_get}
use Rattle.std.specs.List.{AllZip}
use Rattle.status_table.specs.Words.{AreCallsOf, Board, Calls, JobPlace, JobPlan, Plan, RunPlan, job_places, leg_places, run_sizes, ◌>>=◌}
use Rattle.board_decisions.specs.declared.kept.Called.TheVariants.{Unknown}
use Rattle.board_counters.specs.Dependents.{all_dependents}
use Rattle.board_counters.specs.declared.lasting.Lasting.{Lasting}

-- What is told of each step of a job of a workflow is so.
abbrev pub TellsSteps : RunPlan → JobPlan → List Calls → Type 0
TellsSteps run job calls = AllZip (AreCallsOf run job) job.steps calls

-- What is told of each step of all jobs of a workflow is so.
abbrev pub TellsJobs : RunPlan → List (List Calls) → Type 0
TellsJobs run calls = AllZip (TellsSteps run) run.jobs calls

-- and of the jobs of all workflows
abbrev pub TellsRuns : List RunPlan → List (List (List Calls)) → Type 0
TellsRuns runs calls = AllZip TellsJobs runs calls

-- what is told, if anything is
abbrev pub or_unknown : Option Calls → Calls
or_unknown None = record { success = Unknown; failure = Unknown; cancelled = Unknown }
or_unknown (Some calls) = calls

-- what is told of a step of the job at a place
abbrev pub calls_at : List (List (List Calls)) → JobPlace → ℕ → Calls
calls_at calls place step =
    or_unknown (slice_get calls place.run >>= λ row. slice_get row place.job >>= λ steps. slice_get steps step)

-- The places are those of the board's jobs and legs, what is told of steps is told of the plan's, and each job has the
-- places of those that need it.
pub record IsLasting (p : Plan) (b : Board) (lasting : Lasting) : Type 0 where
  pub jobs : lasting.jobs ≡ job_places b
  pub legs : lasting.legs ≡ leg_places b
  pub calls : TellsRuns p.runs lasting.calls
  pub dependents : lasting.dependents ≡ all_dependents p.runs (run_sizes b.runs)
