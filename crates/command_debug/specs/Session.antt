-- A session with the debugger: what stands of the lines that were answered, however it ends.
use Rattle.std.specs.Prelude.{◌≡◌, ℕ, Bool, true, false, ◌++◌, List, Option, Some, None, IfSome, Result, Ok, Err}
use Rattle.status_table.specs.Words.{lines_of}
use Rattle.debugger.specs.Session.{Session}
use Rattle.command_io.specs.Stream.{Stream, IsCutOff, IsKept, IsLineRead, IsWritten, LosesPart, TakesLines}
use Rattle.command_io.specs.Tell.{Says}
use Rattle.command_io.specs.CommandError.{line, error_status}
use Rattle.command_io.specs.declared.stream.SourceFault.{SourceFault}
use Rattle.command_io.specs.declared.error.CommandError.{CommandError}
use Rattle.command_io.specs.declared.error.CommandError.TheVariants.{Io, Memory}
use Rattle.command_debug.specs.Answers.{TellsLines, TellsOneLine}
use Rattle.command_debug.specs.declared.session.Halt.{Halt}

-- The answers to these lines stand on out.
pub record Stands (s : Session) (lines : List (List ℕ)) (out out' : Stream) : Type 0 where
  pub told : List ℕ
  pub tells : TellsLines s lines told
  pub written : IsWritten out out' told

-- How far the input was read: these lines were taken of it, and then it had ended, a read failed within a line, there was
-- no memory, or nothing more was asked of it.
abbrev pub ReadTo : Stream → Stream → List (List ℕ) → Result (Unit {0}) Halt → Type 0
ReadTo input input' lines (Ok done) = IfSome input.bytes (λ text. lines ≡ lines_of text) × (input'.failed ≡ input.failed)
ReadTo input input' lines (Err Halt.Unread) =
    (left : Option (List ℕ)) × TakesLines input.bytes left lines × LosesPart left input'.bytes × (input'.failed ≡ true)
ReadTo input input' lines (Err Halt.Memory) = (left : Option (List ℕ)) × TakesLines input.bytes left lines
ReadTo input input' lines (Err Halt.Unwritten) = TakesLines input.bytes input'.bytes lines × (input'.failed ≡ input.failed)

-- All lines of the input were answered.
pub record AnswersAll (s : Session) (input input' out out' : Stream) : Type 0 where
  pub lines : List (List ℕ)
  pub all : IfSome input.bytes (λ text. lines ≡ lines_of text)
  pub sound : input'.failed ≡ input.failed
  pub stands : Stands s lines out out'

-- A read failed, and the lines before the one that it was within were answered.
pub record StopsUnread (s : Session) (input input' out out' : Stream) : Type 0 where
  pub lines : List (List ℕ)
  pub left : Option (List ℕ)
  pub taken : TakesLines input.bytes left lines
  pub lost : LosesPart left input'.bytes
  pub failed : input'.failed ≡ true
  pub stands : Stands s lines out out'

-- A write failed within the answers to the lines that were read, and a beginning of their text stands on out.
pub record StopsUnwritten (s : Session) (input input' out out' : Stream) : Type 0 where
  pub lines : List (List ℕ)
  pub told : List ℕ
  pub ended : Result (Unit {0}) Halt
  pub read : ReadTo input input' lines ended
  pub tells : TellsLines s lines told
  pub cut_off : IsCutOff out out' told

-- There was no memory to read a line or to answer it, and the lines before it were answered.
pub record StopsForMemory (s : Session) (input out out' : Stream) : Type 0 where
  pub lines : List (List ℕ)
  pub left : Option (List ℕ)
  pub taken : TakesLines input.bytes left lines
  pub stands : Stands s lines out out'

-- What stands where a session has come to the end of the input, or has stopped before it.
abbrev pub Holds : Session → Stream → Stream → Stream → Stream → Result (Unit {0}) Halt → Type 0
Holds s input input' out out' (Ok done) = AnswersAll s input input' out out'
Holds s input input' out out' (Err Halt.Unread) = StopsUnread s input input' out out'
Holds s input input' out out' (Err Halt.Unwritten) = StopsUnwritten s input input' out out'
Holds s input input' out out' (Err Halt.Memory) = StopsForMemory s input out out'

-- Nothing stands on err, with the status 0.
abbrev pub IsDone : Stream → Stream → ℕ → Type 0
IsDone err err' status = IsKept err err' × (status ≡ 0)

-- An error's line stands on err, as far as err takes it, with the error's status.
abbrev pub IsRefused : CommandError → Stream → Stream → ℕ → Type 0
IsRefused error err err' status = Says err err' (line error) × (status ≡ error_status error)

-- How the end of a session is told: a read or a write that failed is error with files and streams.
abbrev pub Finishes : Result (Unit {0}) Halt → Stream → Stream → ℕ → Type 0
Finishes (Ok done) err err' status = IsDone err err' status
Finishes (Err Halt.Unread) err err' status = IsRefused Io err err' status
Finishes (Err Halt.Unwritten) err err' status = IsRefused Io err err' status
Finishes (Err Halt.Memory) err err' status = IsRefused Memory err err' status

-- What a session leaves: the answers to the lines that were read, and how it ended.
pub record SessionTells (s : Session) (input input' out out' err err' : Stream) (status : ℕ) : Type 0 where
  pub held : Result (Unit {0}) Halt
  pub holds : Holds s input input' out out' held
  pub finishes : Finishes held err err' status

-- ---- what the code answers on the way

-- The next line of the input: whether there was one and which, or why not.
abbrev pub AsksLine : Stream → Stream → List ℕ → Result Bool Halt → Type 0
AsksLine old new line (Ok true) = IsLineRead old new (Ok (Some line))
AsksLine old new line (Ok false) = IsLineRead old new (Ok None)
AsksLine old new line (Err Halt.Unread) = IsLineRead old new (Err SourceFault.Failed)
AsksLine old new line (Err Halt.Unwritten) = ⊥
AsksLine old new line (Err Halt.Memory) = IsLineRead old new (Err SourceFault.Memory)

-- A line is done, and the answer to it is gathered after others, which stay as they were where there is no memory.
abbrev pub Answers : Session → List ℕ → Session → List ℕ → List ℕ → Result (Unit {0}) Halt → Type 0
Answers s asked next gathered gathered' (Ok done) = (told : List ℕ) × TellsOneLine s asked told next × (gathered' ≡ gathered ++ told)
Answers s asked next gathered gathered' (Err Halt.Unread) = ⊥
Answers s asked next gathered gathered' (Err Halt.Unwritten) = ⊥
Answers s asked next gathered gathered' (Err Halt.Memory) = gathered' ≡ gathered

-- A text was written up to what is gathered, which is its rest.
abbrev pub IsGathered : Stream → Stream → List ℕ → List ℕ → Type 0
IsGathered out out' told gathered = (written : List ℕ) × IsWritten out out' written × (told ≡ written ++ gathered)

-- What was gathered is written or still gathered, or a write failed within it.
abbrev pub HandsOn : Stream → Stream → List ℕ → List ℕ → Result (Unit {0}) Halt → Type 0
HandsOn out out' gathered gathered' (Ok done) = IsGathered out out' gathered gathered'
HandsOn out out' gathered gathered' (Err Halt.Unread) = ⊥
HandsOn out out' gathered gathered' (Err Halt.Unwritten) = IsCutOff out out' gathered
HandsOn out out' gathered gathered' (Err Halt.Memory) = ⊥

-- The next line was taken, and the answer to it is gathered after others.
abbrev pub AnswersOne : Session → Stream → Session → Stream → List ℕ → List ℕ → Type 0
AnswersOne s input next input' gathered gathered' =
    (asked : List ℕ) × IsLineRead input input' (Ok (Some asked)) × Answers s asked next gathered gathered' (Ok tt)

-- The next line is answered where it is there without waiting; else nothing was done.
abbrev pub AnswersReady : Session → Stream → Session → Stream → List ℕ → List ℕ → Result Bool Halt → Type 0
AnswersReady s input next input' gathered gathered' (Ok true) = AnswersOne s input next input' gathered gathered'
AnswersReady s input next input' gathered gathered' (Ok false) = (next ≡ s) × (input' ≡ input) × (gathered' ≡ gathered)
AnswersReady s input next input' gathered gathered' (Err Halt.Unread) = ⊥
AnswersReady s input next input' gathered gathered' (Err Halt.Unwritten) = ⊥
AnswersReady s input next input' gathered gathered' (Err Halt.Memory) = gathered' ≡ gathered

-- The next line is waited for and answered, or there is none, or why not.
abbrev pub AnswersWaited : Session → Stream → Session → Stream → List ℕ → List ℕ → Result Bool Halt → Type 0
AnswersWaited s input next input' gathered gathered' (Ok true) = AnswersOne s input next input' gathered gathered'
AnswersWaited s input next input' gathered gathered' (Ok false) = IsLineRead input input' (Ok None) × (gathered' ≡ gathered)
AnswersWaited s input next input' gathered gathered' (Err Halt.Unread) = IsLineRead input input' (Err SourceFault.Failed) × (gathered' ≡ gathered)
AnswersWaited s input next input' gathered gathered' (Err Halt.Unwritten) = ⊥
AnswersWaited s input next input' gathered gathered' (Err Halt.Memory) = gathered' ≡ gathered

-- The next line is answered, after what was gathered is written or is still gathered; or there is none, or why not.
abbrev pub AnswersNext : Session → Stream → Stream → Session → Stream → Stream → List ℕ → List ℕ → Result Bool Halt → Type 0
AnswersNext s input out next input' out' gathered gathered' (Ok true) =
    (left : List ℕ) × HandsOn out out' gathered left (Ok tt) × AnswersOne s input next input' left gathered'
AnswersNext s input out next input' out' gathered gathered' (Ok false) = HandsOn out out' gathered gathered' (Ok tt) × IsLineRead input input' (Ok None)
AnswersNext s input out next input' out' gathered gathered' (Err Halt.Unread) =
    HandsOn out out' gathered gathered' (Ok tt) × IsLineRead input input' (Err SourceFault.Failed)
AnswersNext s input out next input' out' gathered gathered' (Err Halt.Unwritten) =
    HandsOn out out' gathered gathered' (Err Halt.Unwritten) × (input' ≡ input)
AnswersNext s input out next input' out' gathered gathered' (Err Halt.Memory) = HandsOn out out' gathered gathered' (Ok tt)

-- The lines that were read are answered, and their answers stand on out or are gathered.
pub record IsAnswered (s : Session) (input input' out out' : Stream) (gathered : List ℕ) (ended : Result (Unit {0}) Halt) : Type 0 where
  pub lines : List (List ℕ)
  pub told : List ℕ
  pub read : ReadTo input input' lines ended
  pub tells : TellsLines s lines told
  pub written : IsGathered out out' told gathered

-- What is left to be written where a session has come to the end of the input, or has stopped before it.
abbrev pub Gathers : Session → Stream → Stream → Stream → Stream → List ℕ → Result (Unit {0}) Halt → Type 0
Gathers s input input' out out' gathered (Ok done) = IsAnswered s input input' out out' gathered (Ok done)
Gathers s input input' out out' gathered (Err Halt.Unread) = IsAnswered s input input' out out' gathered (Err Halt.Unread)
Gathers s input input' out out' gathered (Err Halt.Unwritten) = StopsUnwritten s input input' out out'
Gathers s input input' out out' gathered (Err Halt.Memory) = IsAnswered s input input' out out' gathered (Err Halt.Memory)
