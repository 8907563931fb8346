-- What `actrun debug` leaves: the session with a record, or why the record is not under the debugger.
use Rattle.std.specs.Prelude.{◌≡◌, ℕ, ◌⊎◌, List, Result, Ok, Err}
use Rattle.status_table.specs.Words.{Entry, IsLegal, Plan, new_board}
use Rattle.debugger.specs.Session.{Session, opened}
use Rattle.debugger.specs.declared.fault.DebugFault.{DebugFault}
use Rattle.command_io.specs.Records.{HasLine, IsNotPlayed, IsStopped, OfRecord, stop_error}
use Rattle.command_io.specs.Stream.{Stream, IsRead}
use Rattle.command_io.specs.Tell.{TellsError}
use Rattle.command_io.specs.CommandError.{UnlessMemory}
use Rattle.command_io.specs.declared.stream.SourceFault.{SourceFault}
use Rattle.command_io.specs.declared.error.CommandError.{CommandError}
use Rattle.command_io.specs.declared.error.CommandError.TheVariants.{Io, Memory}
use Rattle.command_debug.specs.Answers.{TellsLines}
use Rattle.command_debug.specs.Session.{SessionTells}

-- Entries are legal, and this holds of their record at its start, where no break is set.
abbrev pub FromStart : (Session → Type 0) → Plan → List Entry → Type 0
FromStart Is plan entries = IsLegal plan entries × Is (opened plan (new_board plan) entries)

-- A record was read to its end, and its entries are legal; of it at its start this holds.
pub record OfFile (file file' : Stream) (Is : Session → Type 0) : Type 0 where
  pub text : List ℕ
  pub read : IsRead file file' (Ok text)
  pub is : OfRecord text (FromStart Is)

-- Why a record is not under the debugger: it was not read to its end, or it is not played; want of memory may always be why.
abbrev pub IsUnopened : Stream → Stream → CommandError → Type 0
IsUnopened file file' error =
    UnlessMemory error
    ((IsRead file file' (Err SourceFault.Failed) × (error ≡ Io)) ⊎ ((text : List ℕ) × IsRead file file' (Ok text) × IsNotPlayed text error))

-- A record is not under the debugger, which is told before anything is read of the input.
abbrev pub TellsUnopened : Stream → Stream → Stream → Stream → Stream → Stream → Stream → Stream → ℕ → Type 0
TellsUnopened file file' input input' out out' err err' status =
    (error : CommandError) × IsUnopened file file' error × (input' ≡ input) × TellsError error out out' err err' status

-- What `debug` leaves: it reads a record to its end, and tells what is told of the lines of the input, or why the record is
-- not under the debugger.
abbrev pub DebugTells : Stream → Stream → Stream → Stream → Stream → Stream → Stream → Stream → ℕ → Type 0
DebugTells file file' input input' out out' err err' status =
    OfFile file file' (λ s. SessionTells s input input' out out' err err' status)
    ⊎ TellsUnopened file file' input input' out out' err err' status

-- A record and lines come to one text at most.
abbrev pub OneTold : Type 0
OneTold = (text : List ℕ) (lines : List (List ℕ)) (a b : List ℕ)
    → OfRecord text (FromStart (λ s. TellsLines s lines a)) → OfRecord text (FromStart (λ s. TellsLines s lines b)) → a ≡ b

-- ---- what the code answers on the way; want of memory may always be answered

-- This is the record of entries at its start.
abbrev pub IsAtStart : Session → Plan → List Entry → Type 0
IsAtStart s = FromStart (λ start. s ≡ start)

-- Entries under the debugger, or that the table refuses one of them.
abbrev pub GivesSession : Plan → List Entry → Result Session CommandError → Type 0
GivesSession plan entries (Ok s) = IsAtStart s plan entries
GivesSession plan entries (Err error) = IsStopped plan entries error

-- What it comes to that entries are not under the debugger: one of them is refused; the debugger opens no record for the
-- other refusals, which are of moves.
abbrev pub open_error : DebugFault → CommandError
open_error (DebugFault.BadRecord entry refusal) = stop_error entry refusal
open_error DebugFault.AtStart = Memory
open_error DebugFault.AtEnd = Memory
open_error DebugFault.NoPlace = Memory
open_error DebugFault.NoBreak = Memory
open_error DebugFault.Memory = Memory

-- The entry that is refused has a line with a number.
abbrev pub HasOpenLine : DebugFault → Type 0
HasOpenLine (DebugFault.BadRecord entry refusal) = HasLine entry refusal
HasOpenLine DebugFault.AtStart = Unit {0}
HasOpenLine DebugFault.AtEnd = Unit {0}
HasOpenLine DebugFault.NoPlace = Unit {0}
HasOpenLine DebugFault.NoBreak = Unit {0}
HasOpenLine DebugFault.Memory = Unit {0}

-- A record under the debugger, or why it is not played.
abbrev pub OpensRecord : List ℕ → Result Session CommandError → Type 0
OpensRecord text (Ok s) = OfRecord text (IsAtStart s)
OpensRecord text (Err error) = UnlessMemory error (IsNotPlayed text error)

-- A record is read first, and is under the debugger, or why it is not.
abbrev pub OpensFile : Stream → Stream → Result Session CommandError → Type 0
OpensFile file file' (Ok s) = OfFile file file' (λ start. s ≡ start)
OpensFile file file' (Err error) = IsUnopened file file' error
