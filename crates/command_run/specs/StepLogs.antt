-- The logs of the steps that were started, and what is shown of them.
use Rattle.std.specs.Prelude.{◌≡◌, ℕ, ◌⊎◌, Bool, true, false, if◌then◌else◌, List, [], ◌∷◌, ◌++◌, flat_map, string_bytes, Option, Some, None, Result, Ok, Err}
use Rattle.std.specs.Io.KnownBytes.{IsAtEnd}
use Rattle.std.specs.Str.{IsUtf8}
use Rattle.std.specs.declared.alloc.AllocError.{AllocError}
use Rattle.status_table.specs.Words.{Answer, Entry, Event, Plan, lines_of, newline}
use Rattle.command_io.specs.Stream.{Stream, AppendsPart, IsCutOff, IsLineRead, IsWritten, Puts, TakesLines}
use Rattle.command_io.specs.declared.stream.SourceFault.{SourceFault}
use Rattle.command_io.specs.declared.stream.SourceFault.TheVariants.{Failed, Memory}
use Rattle.flow_model.specs.declared.event.Answer.TheVariants.{Exit, NotStarted, BadOutput}
use Rattle.flow_commands.specs.CommandTexts.{commands}
use Rattle.flow_commands.specs.Logs.{Log, lines_text, logs_text, mask_for, told_with}
use Rattle.flow_commands.specs.Shown.{masks_added, shown}
use Rattle.flow_commands.specs.declared.logs.LogTeller.{LogTeller}
use Rattle.command_run.specs.declared.log_files.LogKind.{LogKind}
use Rattle.command_run.specs.declared.log_files.LogKind.TheVariants.{Unread, NoText, Text}
use Rattle.command_run.specs.PlanMasks.{plan_masks}
use Rattle.step_host.specs.Counted.{answer_counted}
use Rattle.step_host.specs.Program.{log_file}
use Rattle.step_host.specs.Replay.{recorded}
use Rattle.step_host.specs.Script.{Line}

-- a program was started
abbrev pub was_started : Answer → Bool
was_started (Exit code outputs env) = true
was_started NotStarted = false
was_started BadOutput = true

-- the leg and the number of a step that was answered, if a program was started for it
abbrev pub started_step : Line → List (ℕ × ℕ)
started_step answered = if was_started answered.2 then (answered.0, answered.1) ∷ [] else []

-- ---- what the file of a log gives

-- What is known of the files of logs: that the file of this name gave these bytes, or none; where not all is shown, that it began with
-- them.
abbrev pub Files : Type 1
Files = List ℕ → Bool → Option (List ℕ) → Type 0

-- And of the log of each step, by its leg and its number.
abbrev pub Gives : Type 1
Gives = ℕ × ℕ → Bool → Option (List ℕ) → Type 0

-- Its file is in the folder in which programs start.
abbrev pub in_folder : Files → List ℕ → Gives
in_folder files work step = files (log_file work step.0 step.1)

-- Why no line follows of a log: it ends, the next is no text, or a read failed.
abbrev pub EndsAs : Stream → LogKind → Type 0
EndsAs left Text = IsAtEnd left.bytes
EndsAs left NoText = (line : List ℕ) × (after : Stream) × IsLineRead left after (Ok (Some line)) × (IsUtf8 (line ++ newline ∷ []) → ⊥)
EndsAs left Unread = (after : Stream) × IsLineRead left after (Err Failed)

-- The lines of a text are the first of a log, and then this is left of it.
pub record BeginsWith (log : Stream) (text : List ℕ) (left : Stream) : Type 0 where
  pub utf8 : IsUtf8 text
  pub taken : TakesLines log.bytes left.bytes (lines_of text)
  pub sound : left.failed ≡ log.failed

-- A file of this name was opened as a log and read: the lines of this text, and no more for that reason.
pub record IsReadAs {L : Type 0} (logs : Option L → List ℕ → Type 0) (seen : L → Stream) (name text : List ℕ) (kind : LogKind) : Type 0 where
  pub log : L
  pub opened : logs (Some log) name
  pub left : Stream
  pub begins : BeginsWith (seen log) text left
  pub ends : EndsAs left kind

-- What a file gives: nothing, where it cannot be opened or read; bytes that are no text, where a line of it is none; else its text,
-- which, where it has changed since, is read up to a line that is no text or cannot be read.
abbrev pub FileGives : {L : Type 0} → (Option L → List ℕ → Type 0) → (L → Stream) → List ℕ → Option (List ℕ) → Type 0
FileGives logs seen name None = logs None name ⊎ ((text : List ℕ) × IsReadAs logs seen name text Unread)
FileGives logs seen name (Some bytes) =
    ((text : List ℕ) × IsReadAs logs seen name text NoText × (IsUtf8 bytes → ⊥))
    ⊎ ((text : List ℕ) × IsReadAs logs seen name text Text × (kind : LogKind) × IsReadAs logs seen name bytes kind)

-- What it begins with: nothing, or the lines of this text.
abbrev pub FileBegins : {L : Type 0} → (Option L → List ℕ → Type 0) → (L → Stream) → List ℕ → Option (List ℕ) → Type 0
FileBegins {L} logs seen name None = Unit {0}
FileBegins {L} logs seen name (Some bytes) = (log : L) × logs (Some log) name × (left : Stream) × BeginsWith (seen log) bytes left

-- What is known of logs where opening a file gave this log, or none, and a log shows this.
abbrev pub files_of : {L : Type 0} → (Option L → List ℕ → Type 0) → (L → Stream) → Files
files_of logs seen name true given = FileGives logs seen name given
files_of logs seen name false given = FileGives logs seen name given ⊎ FileBegins logs seen name given

-- ---- what is shown

-- The logs are those of these steps, one after the other, each with what its file gives.
abbrev pub AreLogsOf : Gives → Bool → List (ℕ × ℕ) → List Log → Type 0
AreLogsOf gives whole [] [] = Unit {0}
AreLogsOf gives whole [] (log ∷ logs) = ⊥
AreLogsOf gives whole (step ∷ steps) [] = ⊥
AreLogsOf gives whole (step ∷ steps) (log ∷ logs) = (log.0 ≡ step.0) × gives step whole log.1 × AreLogsOf gives whole steps logs

-- What is shown of the logs of a history: those of the steps that were started, in the order in which they ended.
pub record ShowsLogs (gives : Gives) (whole : Bool) (plan : Plan) (history : List Entry) (shown : List ℕ) : Type 0 where
  pub logs : List Log
  pub of : AreLogsOf gives whole (flat_map started_step (recorded plan history)) logs
  pub is : shown ≡ logs_text (plan_masks plan) [] logs

-- ---- how it is written

-- What came of a text that is made and written piece by piece: it was written whole, or a write failed, or there was no memory for
-- a piece.
abbrev pub Written : Type 0
Written = Result Bool AllocError

-- A beginning of the text was written, and no write failed.
abbrev pub IsBegun : Stream → Stream → List ℕ → Type 0
IsBegun old new text = AppendsPart old.bytes new.bytes text × (new.failed ≡ old.failed)

abbrev pub is_whole : Written → Bool
is_whole (Ok whole) = whole
is_whole (Err memory) = false

abbrev pub PutsText : Stream → Stream → List ℕ → Written → Type 0
PutsText old new text (Ok whole) = Puts old new text whole
PutsText old new text (Err memory) = IsBegun old new text

-- What is shown of the logs of a history was written so.
pub record PutsShown (gives : Gives) (plan : Plan) (history : List Entry) (out out' : Stream) (written : Written) : Type 0 where
  pub shown : List ℕ
  pub shows : ShowsLogs gives (is_whole written) plan history shown
  pub puts : PutsText out out' shown written

-- ---- what the code answers on the way

-- the step that an event ends, if a program was started for it, where so many steps of each leg are begun
abbrev pub started_by : (ℕ → ℕ) → Event → List (ℕ × ℕ)
started_by many e = flat_map started_step (answer_counted many e)

-- masks that are kept, or none
abbrev pub or_none : Option (List (List ℕ)) → List (List ℕ)
or_none None = []
or_none (Some masks) = masks

-- a number that is kept, or 0
abbrev pub or_zero : Option ℕ → ℕ
or_zero None = 0
or_zero (Some many) = many

-- how many steps of a leg are begun, by what is kept of it
abbrev pub begun_of : (ℕ → Option ℕ) → ℕ → ℕ
begun_of kept leg = or_zero (kept leg)

-- the masks that the logs of a leg added, by what is kept of them
abbrev pub added_by : (ℕ → Option (List (List ℕ))) → ℕ → List (List ℕ)
added_by kept leg = or_none (kept leg)

-- The masks that logs added, by their legs, are these, each with the number of its leg.
abbrev pub AreAdded : (ℕ → List (List ℕ)) → List (ℕ × List ℕ) → Type 0
AreAdded by added = (leg : ℕ) → by leg ≡ flat_map (mask_for leg) added

-- This is shown of a log of a leg, which gives this, where the masks that its earlier logs added are these, and it adds others.
pub record ShowsLog (gives : Option (List ℕ) → Type 0) (given : List (List ℕ)) (leg : ℕ) (added added' : List (ℕ × List ℕ)) (shown : List ℕ) : Type 0 where
  pub bytes : Option (List ℕ)
  pub of : gives bytes
  pub is : (logs : List Log) → logs_text given added ((leg, bytes) ∷ logs) ≡ shown ++ logs_text given added' logs

-- What is shown of a log of a leg was written, or a beginning of it. Where it was written whole, the masks that it adds are kept.
abbrev pub PutsLog : (Bool → Option (List ℕ) → Type 0) → List (List ℕ) → ℕ → (ℕ → List (List ℕ)) → (ℕ → List (List ℕ)) → Stream → Stream → Written → Type 0
PutsLog gives given leg by by' out out' (Ok true) = (added : List (ℕ × List ℕ)) → AreAdded by added
    → (added' : List (ℕ × List ℕ)) × AreAdded by' added' × (shown : List ℕ) × ShowsLog (gives true) given leg added added' shown × PutsText out out' shown (Ok true)
PutsLog gives given leg by by' out out' (Ok false) = (added : List (ℕ × List ℕ)) → AreAdded by added
    → (added' : List (ℕ × List ℕ)) × (shown : List ℕ) × ShowsLog (gives false) given leg added added' shown × PutsText out out' shown (Ok false)
PutsLog gives given leg by by' out out' (Err memory) = (added : List (ℕ × List ℕ)) → AreAdded by added
    → (added' : List (ℕ × List ℕ)) × (shown : List ℕ) × ShowsLog (gives false) given leg added added' shown × PutsText out out' shown (Err memory)

-- What is shown of logs of these steps was written so.
pub record PutsLogs (gives : Gives) (given : List (List ℕ)) (steps : List (ℕ × ℕ)) (out out' : Stream) (written : Written) : Type 0 where
  pub logs : List Log
  pub of : AreLogsOf gives (is_whole written) steps logs
  pub puts : PutsText out out' (logs_text given [] logs) written

-- ---- the lines of a log

-- A line was read of a log, and this is the line with its newline.
pub record GetsLine (old new : Stream) (text : List ℕ) : Type 0 where
  pub line : List ℕ
  pub is : text ≡ line ++ newline ∷ []
  pub read : IsLineRead old new (Ok (Some line))

-- Whether there was a line, and which; or why not.
abbrev pub GetsNext : Stream → Stream → List ℕ → Result Bool SourceFault → Type 0
GetsNext old new text (Ok true) = GetsLine old new text
GetsNext old new text (Ok false) = EndsAs old Text
GetsNext old new text (Err Failed) = EndsAs old Unread
GetsNext old new text (Err Memory) = Unit {0}

-- What the lines are that are left of a log.
abbrev pub IsOfKind : Stream → LogKind → Type 0
IsOfKind log kind = (text : List ℕ) × (left : Stream) × BeginsWith log text left × EndsAs left kind

-- What reading the file of a log line by line comes to.
abbrev pub FileIs : {L : Type 0} → (Option L → List ℕ → Type 0) → (L → Stream) → List ℕ → LogKind → Type 0
FileIs logs seen name Unread = FileGives logs seen name None
FileIs logs seen name NoText = (text : List ℕ) × IsReadAs logs seen name text NoText
FileIs logs seen name Text = (text : List ℕ) × IsReadAs logs seen name text Text

-- What is shown of the lines so far of a log was written, or is still gathered; or a beginning of it was written.
abbrev pub HandsOn : LogTeller → LogTeller → Stream → Stream → Bool → Type 0
HandsOn log log' out out' true = (part : List ℕ) × IsWritten out out' part × (string_bytes log.shown ≡ part ++ string_bytes log'.shown)
    × (log'.masks ≡ log.masks) × (log'.stop ≡ log.stop)
HandsOn log log' out out' false = IsCutOff out out' (string_bytes log.shown)

-- a text before what is told
abbrev pub behind : List ℕ → List ℕ × List (List ℕ) → List ℕ × List (List ℕ)
behind text told = (text ++ told.0, told.1)

-- What is shown of the next lines of a log, after what is gathered, was written, or is still gathered; or a beginning of it was written.
abbrev pub PutsNext : List (List ℕ) → LogTeller → LogTeller → List (List ℕ) → Stream → Stream → Written → Type 0
PutsNext given log log' next out out' (Ok true) = (part : List ℕ) × IsWritten out out' part
    × ((lines : List (List ℕ)) → told_with given log (next ++ lines) ≡ behind part (told_with given log' lines))
PutsNext given log log' next out out' (Ok false) = IsCutOff out out' (told_with given log next).0
PutsNext given log log' next out out' (Err memory) = IsBegun out out' (told_with given log next).0

-- What is shown of the lines that are left of a log, all of them where all was written, was written so, by the masks that are given
-- and those of the leg, which grow.
pub record PutsLines (lines : Stream) (given masks masks' : List (List ℕ)) (out out' : Stream) (written : Written) : Type 0 where
  pub text : List ℕ
  pub left : Stream
  pub begins : BeginsWith lines text left
  pub ends : written ≡ Ok true → (kind : LogKind) × EndsAs left kind
  pub adds : written ≡ Ok true → masks' ≡ masks ++ flat_map masks_added (commands text)
  pub puts : PutsText out out' (lines_text (shown (given ++ masks) (commands text))) written
