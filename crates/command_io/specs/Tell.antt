-- What a command leaves on its two writers, and its exit status.
use Rattle.std.specs.Prelude.{◌≡◌, ℕ, ◌⊎◌, List, String, string_bytes, Result, Ok, Err, Vec}
use Rattle.std.specs.declared.alloc.Global.{Global}
use Rattle.command_io.specs.Stream.{Stream, IsKept, IsWritten, IsCutOff}
use Rattle.command_io.specs.CommandError.{line, error_status, UnlessMemory}
use Rattle.command_io.specs.declared.stream.SourceFault.{SourceFault}
use Rattle.command_io.specs.declared.error.CommandError.{CommandError}
use Rattle.command_io.specs.declared.error.CommandError.TheVariants.{Io, Memory}

-- What a command comes to: the text that it writes to out, or an error.
abbrev pub Answer : Type 0
Answer = Result (List ℕ) CommandError

-- What the code answers, seen so.
abbrev pub answer_seen : Result (String Global) CommandError → Answer
answer_seen (Ok text) = Ok (string_bytes text)
answer_seen (Err error) = Err error

-- A text to print, with its exit status.
abbrev pub Printed : Type 0
Printed = Vec ℕ Global × ℕ

-- Its text, and its status; that of an error is its own.
abbrev pub printed_text : Result Printed CommandError → Answer
printed_text (Ok both) = Ok both.0.items
printed_text (Err error) = Err error

abbrev pub printed_status : Result Printed CommandError → ℕ
printed_status (Ok both) = both.1
printed_status (Err error) = 0

-- ---- what is written

-- A text was written whole, or a write failed after a beginning of it.
abbrev pub Says : Stream → Stream → List ℕ → Type 0
Says old new text = IsWritten old new text ⊎ IsCutOff old new text

-- The text stands on out and nothing on err, with this status.
pub record TellsText (text : List ℕ) (done : ℕ) (out out' err err' : Stream) (status : ℕ) : Type 0 where
  pub written : IsWritten out out' text
  pub silent : IsKept err err'
  pub is : status ≡ done

-- Nothing stands on out, and the error's line on err, as far as err takes it, with the error's status.
pub record TellsError (error : CommandError) (out out' err err' : Stream) (status : ℕ) : Type 0 where
  pub kept : IsKept out out'
  pub said : Says err err' (line error)
  pub is : status ≡ error_status error

-- Nothing stands on out, and an error is told.
abbrev pub TellsSome : Stream → Stream → Stream → Stream → ℕ → Type 0
TellsSome out out' err err' status = (error : CommandError) × TellsError error out out' err err' status

-- A write to out failed after a beginning of the text, which is told as error with files and streams.
pub record BreaksOff (text : List ℕ) (out out' err err' : Stream) (status : ℕ) : Type 0 where
  pub cut_off : IsCutOff out out' text
  pub said : Says err err' (line Io)
  pub is : status ≡ error_status Io

-- What is left of an answer, where a text has this status.
abbrev pub TellsBy : ℕ → Answer → Stream → Stream → Stream → Stream → ℕ → Type 0
TellsBy done (Ok text) out out' err err' status = TellsText text done out out' err err' status ⊎ BreaksOff text out out' err err' status
TellsBy done (Err error) out out' err err' status = TellsError error out out' err err' status

-- What is left of an answer, where a text has the status 0.
abbrev pub Tells : Answer → Stream → Stream → Stream → Stream → ℕ → Type 0
Tells answer out out' err err' status = TellsBy 0 answer out out' err err' status

-- ---- what is told of an input

-- The fact holds, unless the answer is want of memory.
abbrev pub OrMemory : Answer → Type 0 → Type 0
OrMemory (Ok text) fact = fact
OrMemory (Err error) fact = UnlessMemory error fact

-- An answer to what was read; where only a part was read there is none but the error.
abbrev pub AnswersRead : {A : Type 0} → (A → Answer → Type 0) → Result A SourceFault → Answer → Type 0
AnswersRead Is (Ok read) answer = OrMemory answer (Is read answer)
AnswersRead Is (Err SourceFault.Failed) answer = answer ≡ Err Io
AnswersRead Is (Err SourceFault.Memory) answer = answer ≡ Err Memory

-- A command reads what it is handed, and tells an answer to it; want of memory may always be answered.
pub record TellsOf {A : Type 0} (Is : A → Answer → Type 0) (Reads : Result A SourceFault → Type 0) (out out' err err' : Stream) (status : ℕ) : Type 0 where
  pub read : Result A SourceFault
  pub reads : Reads read
  pub answer : Answer
  pub answers : AnswersRead Is read answer
  pub told : Tells answer out out' err err' status
