-- What `actrun run` tells: what was shown of the steps that it played, how the runs ended, and why it stopped.
use Rattle.std.specs.Prelude.{◌≡◌, ℕ, Bool, true, false, ◌⊎◌, codes, List, [], ◌++◌, Option, Some, None, Result, Ok, Err, Vec}
use Rattle.std.specs.declared.alloc.Global.{Global}
use Rattle.status_table.specs.Words.{Board, Entry, Plan, after}
use Rattle.command_io.specs.Files.{Content, File, IsContent}
use Rattle.command_io.specs.Runs.{runs_status}
use Rattle.command_io.specs.PlayStop.{SaysStop}
use Rattle.command_io.specs.Stream.{Stream, IsKept, IsRead}
use Rattle.command_io.specs.Tell.{Says, TellsError}
use Rattle.command_io.specs.CommandError.{line, source_error, error_status}
use Rattle.command_io.specs.declared.stop.PlayStop.{PlayStop}
use Rattle.command_io.specs.declared.stop.PlayStop.TheVariants.{Workers}
use Rattle.command_io.specs.declared.stream.SourceFault.{SourceFault}
use Rattle.command_io.specs.declared.error.CommandError.{CommandError}
use Rattle.command_io.specs.declared.error.CommandError.TheVariants.{NoExpression, NoValue, NoContexts, NoFlow, NotPlanned, NoPlan, NoEntry, Refused, Words, Io, Memory}
use Rattle.plan_text.specs.Load.{load}
use Rattle.plan_text.specs.declared.fault.LoadFault.{LoadFault}
use Rattle.plan_text.specs.Record.{record_text}
use Rattle.command_run.specs.Playing.{IsPlayed, Leaves}
use Rattle.command_run.specs.RecordFile.{RecordKept}
use Rattle.command_run.specs.RunLines.{run_lines}
use Rattle.command_run.specs.StepLogs.{Files, Gives, PutsText, ShowsLogs, Written, in_folder, is_whole}
use Rattle.command_run.specs.Stubs.{Stubs, file_stubs}
use Rattle.worker_pool.specs.Many.{AreNoWorkers}

-- ---- the text of a history

-- The lines tell how the runs of a board ended, and so does the status.
abbrev pub TellsEnd : Board → List ℕ → ℕ → Type 0
TellsEnd board lines done = (lines ≡ run_lines 0 board.runs) × (done ≡ runs_status board)

-- A play that came to its end tells how its runs ended, by lines and by its status.
pub record ShowsEnd (plan : Plan) (history : List Entry) (lines : List ℕ) (done : ℕ) : Type 0 where
  pub board : Board
  pub leads : after plan history ≡ Some board
  pub is : lines ≡ run_lines 0 board.runs
  pub tells : done ≡ runs_status board

-- One that was stopped tells nothing of them.
abbrev pub ShowsRest : Plan → List Entry → Option PlayStop → List ℕ → ℕ → Type 0
ShowsRest plan history (Some stop) lines done = lines ≡ []
ShowsRest plan history None lines done = ShowsEnd plan history lines done

-- The text of a history, what is shown of its logs and then those lines, and the status that goes with it where all goes well.
pub record IsRunText (gives : Gives) (whole : Bool) (plan : Plan) (history : List Entry) (stop : Option PlayStop) (text : List ℕ) (done : ℕ) : Type 0 where
  pub shown : List ℕ
  pub lines : List ℕ
  pub shows : ShowsLogs gives whole plan history shown
  pub rest : ShowsRest plan history stop lines done
  pub is : text ≡ shown ++ lines

-- ---- what is told

-- What keeping the text of a record did, where `out` showed this.
abbrev pub Keeps : Type 1
Keeps = List ℕ → Stream → RecordKept → Type 0

-- The line of an error on err, and its status.
abbrev pub SaysError : CommandError → Stream → Stream → ℕ → Type 0
SaysError error err err' status = Says err err' (line error) × (status ≡ error_status error)

-- What is told after the text: why the play was stopped; else why the record could not be written, or nothing.
abbrev pub Finishes : Option PlayStop → RecordKept → ℕ → Stream → Stream → ℕ → Type 0
Finishes (Some stop) kept done err err' status = SaysStop stop err err' status
Finishes None (Ok true) done err err' status = IsKept err err' × (status ≡ done)
Finishes None (Ok false) done err err' status = SaysError Io err err' status
Finishes None (Err memory) done err err' status = SaysError Memory err err' status

-- What is told of a text that was written so: what follows it where all of it stands on out; that a write failed; or that there was
-- no memory for what follows a beginning of it.
abbrev pub TellsWritten : Written → Option PlayStop → RecordKept → ℕ → Stream → Stream → ℕ → Type 0
TellsWritten (Ok true) stop kept done err err' status = Finishes stop kept done err err' status
TellsWritten (Ok false) stop kept done err err' status = SaysError Io err err' status
TellsWritten (Err memory) stop kept done err err' status = SaysError Memory err err' status

-- What is told of a history.
pub record TellsHistory (gives : Gives) (plan : Plan) (history : List Entry) (stop : Option PlayStop) (kept : RecordKept) (out out' err err' : Stream) (status : ℕ) : Type 0 where
  pub text : List ℕ
  pub done : ℕ
  pub written : Written
  pub is : IsRunText gives (is_whole written) plan history stop text done
  pub puts : PutsText out out' text written
  pub told : TellsWritten written stop kept done err err' status

-- Nothing stands on out, and want of memory is told.
abbrev pub TellsMemory : Stream → Stream → Stream → Stream → ℕ → Type 0
TellsMemory = TellsError Memory

-- What is told of what was played, and kept of it: the text of the history, or that there is no memory for what ends it; and in both
-- cases the record is written when `out` already shows what it shows in the end.
pub record TellsPlaying (keep : Keeps) (gives : Gives) (plan : Plan) (history : List Entry) (stop : Option PlayStop) (out out' err err' : Stream) (status : ℕ) : Type 0 where
  pub kept : RecordKept
  pub keeping : keep (record_text plan history) out' kept
  pub told : TellsHistory gives plan history stop kept out out' err err' status ⊎ TellsMemory out out' err err' status

-- What is known of the record that grew while a plan was played, by what was played.
abbrev pub Grows : Type 1
Grows = Plan → List Entry → Option PlayStop → Type 0

-- What is told of some play of a plan by so many workers, whose record grew so meanwhile.
pub record TellsPlay (grows : Grows) (keep : Keeps) (gives : Gives) (plan : Plan) (workers : ℕ) (out out' err err' : Stream) (status : ℕ) : Type 0 where
  pub history : List Entry
  pub stop : Option PlayStop
  pub played : IsPlayed plan workers history
  pub leaves : Leaves plan history stop
  pub grown : grows plan history stop
  pub told : TellsPlaying keep gives plan history stop out out' err err' status

-- Nothing is played, since there are not so many workers.
abbrev pub TellsWorkers : ℕ → Stream → Stream → Stream → Stream → ℕ → Type 0
TellsWorkers workers out out' err err' status = AreNoWorkers workers × IsKept out out' × SaysStop Workers err err' status

-- What `run` tells of a plan.
abbrev pub RunsPlan : Grows → Keeps → Gives → Plan → ℕ → Stream → Stream → Stream → Stream → ℕ → Type 0
RunsPlan grows keep gives plan workers out out' err err' status =
    TellsPlay grows keep gives plan workers out out' err err' status ⊎ TellsWorkers workers out out' err err' status

-- The texts are a file of stubs and a plan.
pub record AreTexts (stubs : Content) (bytes : List ℕ) (plan : Plan) : Type 0 where
  pub programs : Stubs
  pub has : file_stubs stubs.bytes ≡ Ok programs
  pub loads : load bytes ≡ Ok plan

-- The file of stubs gives some, and the bytes are no plan.
pub record IsNoPlan (stubs : Content) (bytes : List ℕ) (fault : LoadFault) : Type 0 where
  pub programs : Stubs
  pub has : file_stubs stubs.bytes ≡ Ok programs
  pub fails : load bytes ≡ Err fault

-- What is known of the folder for programs: that this is its whole path, or that it has none.
abbrev pub Paths : Type 1
Paths = Option (List ℕ) → Type 0

-- Why nothing is played of texts: the first is no file of stubs; it is one, and the other is no plan; or they are both, and the
-- folder has no whole path. Want of memory may be told of all of them. (`load` refuses no text for a line of an entry.)
abbrev pub AreNotPlayed : Paths → Content → List ℕ → CommandError → Type 0
AreNotPlayed paths stubs bytes (NoContexts file fault) = (file_stubs stubs.bytes ≡ Err fault) × (file ≡ stubs.name)
AreNotPlayed paths stubs bytes (NoPlan fault) = IsNoPlan stubs bytes fault
AreNotPlayed paths stubs bytes (NoEntry n) = IsNoPlan stubs bytes (LoadFault.NotEntry n)
AreNotPlayed paths stubs bytes Io = ((plan : Plan) × AreTexts stubs bytes plan) × paths None
AreNotPlayed paths stubs bytes Memory = Unit {0}
AreNotPlayed paths stubs bytes (NoExpression fault) = ⊥
AreNotPlayed paths stubs bytes (NoValue fault) = ⊥
AreNotPlayed paths stubs bytes (NoFlow file fault) = ⊥
AreNotPlayed paths stubs bytes (NotPlanned fault) = ⊥
AreNotPlayed paths stubs bytes (Refused n fault) = ⊥
AreNotPlayed paths stubs bytes Words = ⊥

-- What is told of a plan and stubs that texts are, where programs start in the folder of this path.
pub record RunsLoaded (grows : Grows) (keep : Keeps) (files : Files) (paths : Paths) (stubs : Content) (bytes : List ℕ) (workers : ℕ) (out out' err err' : Stream) (status : ℕ) : Type 0 where
  pub plan : Plan
  pub texts : AreTexts stubs bytes plan
  pub work : List ℕ
  pub path : paths (Some work)
  pub runs : RunsPlan grows keep (in_folder files work) plan workers out out' err err' status

-- Texts are not played, and why is told.
pub record RefusesTexts (paths : Paths) (stubs : Content) (bytes : List ℕ) (out out' err err' : Stream) (status : ℕ) : Type 0 where
  pub error : CommandError
  pub why : AreNotPlayed paths stubs bytes error
  pub told : TellsError error out out' err err' status

-- What is told of texts.
abbrev pub RunsTexts : Grows → Keeps → Files → Paths → Content → List ℕ → ℕ → Stream → Stream → Stream → Stream → ℕ → Type 0
RunsTexts grows keep files paths stubs bytes workers out out' err err' status =
    RunsLoaded grows keep files paths stubs bytes workers out out' err err' status ⊎ RefusesTexts paths stubs bytes out out' err err' status

-- The file of stubs is read to its end, and then the plan; or one of them is not.
abbrev pub AreBothRead : File → File → Stream → Stream → Result (Content × List ℕ) SourceFault → Type 0
AreBothRead stubs stubs' input input' (Ok both) = IsContent stubs stubs' both.0 × IsRead input input' (Ok both.1)
AreBothRead stubs stubs' input input' (Err why) =
    IsRead stubs.source stubs'.source (Err why) ⊎ ((content : Content) × IsContent stubs stubs' content × IsRead input input' (Err why))

-- Both were read, and this is told of them.
pub record TellsRead (grows : Grows) (keep : Keeps) (files : Files) (paths : Paths) (workers : ℕ) (stubs stubs' : File) (input input' out out' err err' : Stream) (status : ℕ) : Type 0 where
  pub both : Content × List ℕ
  pub read : AreBothRead stubs stubs' input input' (Ok both)
  pub told : RunsTexts grows keep files paths both.0 both.1 workers out out' err err' status

-- One of them was not, and why is told.
pub record TellsUnread (stubs stubs' : File) (input input' out out' err err' : Stream) (status : ℕ) : Type 0 where
  pub why : SourceFault
  pub unread : AreBothRead stubs stubs' input input' (Err why)
  pub told : TellsError (source_error why) out out' err err' status

-- What `run` leaves, by so many workers, where the record of a play grows so, keeping a record does this, the files of logs give
-- this, and this is known of the folder for programs: it reads the file of stubs and the plan to their ends, and tells of them.
abbrev pub RunTells : Grows → Keeps → Files → Paths → ℕ → File → File → Stream → Stream → Stream → Stream → Stream → Stream → ℕ → Type 0
RunTells grows keep files paths workers stubs stubs' input input' out out' err err' status =
    TellsRead grows keep files paths workers stubs stubs' input input' out out' err err' status
    ⊎ TellsUnread stubs stubs' input input' out out' err err' status

-- ---- what the code answers on the way

-- Both texts are read, as the code answers it.
abbrev pub ReadsBoth : File → File → Stream → Stream → Result (Content × Vec ℕ Global) SourceFault → Type 0
ReadsBoth stubs stubs' input input' (Ok both) = AreBothRead stubs stubs' input input' (Ok (both.0, both.1.items))
ReadsBoth stubs stubs' input input' (Err why) = AreBothRead stubs stubs' input input' (Err why)

-- Why a machine cannot give a folder's whole path: it has none of it, or no memory.
abbrev pub IsOfMachine : Paths → CommandError → Type 0
IsOfMachine paths error = ((error ≡ Io) × paths None) ⊎ (error ≡ Memory)

-- the folder in which programs start: the one that is named, or the one in which this program is
abbrev pub work_folder : Option (List ℕ) → List ℕ
work_folder None = codes "."
work_folder (Some folder) = folder

-- What is shown of the logs of a history, and then these lines, were written so.
pub record PutsPlayed (gives : Gives) (plan : Plan) (history : List Entry) (lines : List ℕ) (out out' : Stream) (written : Written) : Type 0 where
  pub shown : List ℕ
  pub shows : ShowsLogs gives (is_whole written) plan history shown
  pub puts : PutsText out out' (shown ++ lines) written
