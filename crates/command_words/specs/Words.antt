-- What the program leaves, whatever its words ask for.
use Rattle.std.specs.Prelude.{◌≡◌, ℕ, ◌⊎◌, List, Option}
use Rattle.std.specs.declared.io.ErrorKind.{ErrorKind}
use Rattle.std.specs.declared.io.ErrorKind.TheVariants.{InvalidData, OutOfMemory}
use Rattle.plan_assembler.specs.declared.choice.Choice.{Choice}
use Rattle.command_debug.specs.Debug.{DebugTells}
use Rattle.command_print.specs.Eval.{EvalTells}
use Rattle.command_io.specs.Files.{File}
use Rattle.command_print.specs.Changes.{ChangesTells}
use Rattle.command_print.specs.Lint.{LintTells}
use Rattle.command_print.specs.List.{ListTells}
use Rattle.command_print.specs.Plan.{PlanTells}
use Rattle.command_print.specs.Replay.{ReplayTells, SettledTells}
use Rattle.command_graph.specs.Graph.{GraphTells}
use Rattle.command_timeline.specs.Timeline.{TimelineTells}
use Rattle.command_why.specs.Why.{WhyTells}
use Rattle.command_why.specs.declared.wanted.Wanted.{Wanted}
use Rattle.command_run.specs.RecordFile.{Keeping, Writes}
use Rattle.command_run.specs.Run as run
use Rattle.command_run.specs.StepLogs.{Files}
use Rattle.command_io.specs.Stream.{Stream}
use Rattle.command_print.specs.Table.{TableTells}
use Rattle.command_io.specs.Tell.{Says, TellsSome, TellsError}
use Rattle.command_io.specs.CommandError.{line, error_status}
use Rattle.command_io.specs.declared.error.CommandError.{CommandError}
use Rattle.command_io.specs.declared.error.CommandError.TheVariants.{Words, Memory}

-- What `eval` tells of some file of contexts and some expression; or an error is told.
abbrev pub RunsEval : Stream → Stream → Stream → Stream → ℕ → Type 0
RunsEval out out' err err' status =
    ((file expression : List ℕ) × (contexts contexts' : Stream) × EvalTells file expression contexts contexts' out out' err err' status)
    ⊎ TellsSome out out' err err' status

-- What `plan` tells of some choice, some file of contexts and some files of workflows; or an error is told.
abbrev pub RunsPlan : Stream → Stream → Stream → Stream → ℕ → Type 0
RunsPlan out out' err err' status =
    ((choice : Choice) × (contexts contexts' : File) × (flows flows' : List File) × PlanTells choice contexts contexts' flows flows' out out' err err' status)
    ⊎ TellsSome out out' err err' status

-- What `list` tells of some files of workflows; or an error is told.
abbrev pub RunsList : Stream → Stream → Stream → Stream → ℕ → Type 0
RunsList out out' err err' status =
    ((flows flows' : List File) × ListTells flows flows' out out' err err' status) ⊎ TellsSome out out' err err' status

-- What `lint` tells of some files of workflows; or an error is told.
abbrev pub RunsLint : Stream → Stream → Stream → Stream → ℕ → Type 0
RunsLint out out' err err' status =
    ((flows flows' : List File) × LintTells flows flows' out out' err err' status) ⊎ TellsSome out out' err err' status

-- What `replay` tells of some record, or what `replay --settled` or `replay --changes` does; or an error is told.
abbrev pub RunsReplay : Stream → Stream → Stream → Stream → ℕ → Type 0
RunsReplay out out' err err' status =
    ((input input' : Stream)
    × (ReplayTells input input' out out' err err' status
    ⊎ (SettledTells input input' out out' err err' status ⊎ ChangesTells input input' out out' err err' status)))
    ⊎ TellsSome out out' err err' status

-- What `graph` tells of some plan or record; or an error is told.
abbrev pub RunsGraph : Stream → Stream → Stream → Stream → ℕ → Type 0
RunsGraph out out' err err' status =
    ((input input' : Stream) × GraphTells input input' out out' err err' status) ⊎ TellsSome out out' err err' status

-- What `timeline` tells of some record; or an error is told.
abbrev pub RunsTimeline : Stream → Stream → Stream → Stream → ℕ → Type 0
RunsTimeline out out' err err' status =
    ((input input' : Stream) × TimelineTells input input' out out' err err' status) ⊎ TellsSome out out' err err' status

-- What `why` tells of some record and of what is asked; or an error is told.
abbrev pub RunsWhy : Stream → Stream → Stream → Stream → ℕ → Type 0
RunsWhy out out' err err' status =
    ((wanted : Wanted) × (input input' : Stream) × WhyTells wanted input input' out out' err err' status)
    ⊎ TellsSome out out' err err' status

-- What `run` tells of some plan, and keeps of it in some file, where the record of a play grows so, a machine writes files so, the
-- files of logs give this, and folders have these whole paths; or an error is told.
abbrev pub RunsRun : run.Grows → Writes → Files → (List ℕ → run.Paths) → Stream → Stream → Stream → Stream → ℕ → Type 0
RunsRun grows writes files paths out out' err err' status =
    ((named work : Option (List ℕ)) × (workers : ℕ) × (stubs stubs' : File) × (input input' : Stream)
    × run.RunTells grows (Keeping writes named) files (paths (run.work_folder work)) workers stubs stubs' input input' out out' err err' status)
    ⊎ TellsSome out out' err err' status

-- What `debug` tells of some record and of the input; or an error is told.
abbrev pub RunsDebug : Stream → Stream → Stream → Stream → Stream → Stream → ℕ → Type 0
RunsDebug input input' out out' err err' status =
    ((file file' : Stream) × DebugTells file file' input input' out out' err err' status) ⊎ TellsSome out out' err err' status

-- What `table` or `debug` tells of the input, or what `eval`, `plan`, `list`, `lint`, `replay`, `graph`, `timeline`, `why` or
-- `run` tells, or an error.
abbrev pub RunTells : run.Grows → Writes → Files → (List ℕ → run.Paths) → Stream → Stream → Stream → Stream → Stream → Stream → ℕ → Type 0
RunTells grows writes files paths input input' out out' err err' status =
    TableTells input input' out out' err err' status
    ⊎ (RunsEval out out' err err' status
    ⊎ (RunsPlan out out' err err' status
    ⊎ (RunsList out out' err err' status
    ⊎ (RunsLint out out' err err' status
    ⊎ (RunsReplay out out' err err' status
    ⊎ (RunsGraph out out' err err' status
    ⊎ (RunsTimeline out out' err err' status
    ⊎ (RunsWhy out out' err err' status
    ⊎ (RunsRun grows writes files paths out out' err err' status ⊎ RunsDebug input input' out out' err err' status)))))))))

-- A command line that cannot be had is told by its kind: one that is no UTF-8 asks for no command.
pub record TellsLine (kind : ErrorKind) (out out' err err' : Stream) (status : ℕ) : Type 0 where
  pub error : CommandError
  pub told : TellsError error out out' err err' status
  pub no_text : kind ≡ InvalidData → error ≡ Words
  pub memory : kind ≡ OutOfMemory → error ≡ Memory

-- Such an error has its line on err alone.
pub record SaysLine (kind : ErrorKind) (err err' : Stream) (status : ℕ) : Type 0 where
  pub error : CommandError
  pub said : Says err err' (line error)
  pub is : status ≡ error_status error
  pub no_text : kind ≡ InvalidData → error ≡ Words
  pub memory : kind ≡ OutOfMemory → error ≡ Memory
