-- What streams show: the bytes that are known of them, and whether they have failed.
use Rattle.std.specs.Prelude.{◌≡◌, ◌≢◌, ℕ, ◌-◌, Bool, true, false, IsTrue, ◌<◌, ◌≤◌, List, [], ◌∷◌, ◌++◌, length, take, slice_index, Option, Some, None, IfSome, Result, Ok, Err, Vec}
use Rattle.std.specs.Io.{StartsWith}
use Rattle.std.specs.Io.KnownBytes.{Appends, Consumes, IsAtEnd, Keeps}
use Rattle.std.specs.declared.alloc.Global.{Global}
use Rattle.std.specs.declared.io.ErrorKind.{ErrorKind}
use Rattle.std.specs.declared.io.ErrorKind.TheVariants.{OutOfMemory}
use Rattle.status_table.specs.Words.{is_line, lines_of, newline}
use Rattle.command_io.specs.declared.stream.SourceFault.{SourceFault}
use Rattle.command_io.specs.declared.stream.SourceFault.TheVariants.{Failed, Memory}

-- The bytes that a sink holds or a source has left, where they are known, and whether a call on it has failed.
pub record Stream : Type 0 where
  pub bytes : Option (List ℕ)
  pub failed : Bool

-- Nothing was written.
abbrev pub IsKept : Stream → Stream → Type 0
IsKept old new = Keeps old.bytes new.bytes × (new.failed ≡ old.failed)

-- The text was written, and no write failed.
abbrev pub IsWritten : Stream → Stream → List ℕ → Type 0
IsWritten old new text = Appends old.bytes new.bytes text × (new.failed ≡ old.failed)

-- Known bytes grow by a beginning of the text.
pub record AppendsPart (old new : Option (List ℕ)) (text : List ℕ) : Type 0 where
  pub part : List ℕ
  pub rest : List ℕ
  pub whole : text ≡ part ++ rest
  pub appended : Appends old new part

-- A write failed after a beginning of the text was written.
abbrev pub IsCutOff : Stream → Stream → List ℕ → Type 0
IsCutOff old new text = AppendsPart old.bytes new.bytes text × (new.failed ≡ true)

-- What a call that writes a text answers: whether it was written.
abbrev pub Puts : Stream → Stream → List ℕ → Bool → Type 0
Puts old new text true = IsWritten old new text
Puts old new text false = IsCutOff old new text

-- What a call that hands on what was written answers: whether that could be done.
abbrev pub Flushes : Stream → Stream → Bool → Type 0
Flushes old new true = IsKept old new
Flushes old new false = Keeps old.bytes new.bytes × (new.failed ≡ true)

-- What reading a source to its end comes to: all bytes, where they are known; or a read failed; or there was no memory, and no
-- read failed.
abbrev pub IsRead : Stream → Stream → Result (List ℕ) SourceFault → Type 0
IsRead old new (Ok bytes) = IfSome old.bytes (λ known. bytes ≡ known) × (new.failed ≡ old.failed)
IsRead old new (Err Failed) = new.failed ≡ true
IsRead old new (Err Memory) = new.failed ≡ old.failed

-- What the code answers is so.
abbrev pub ReadsAll : Stream → Stream → Result (Vec ℕ Global) SourceFault → Type 0
ReadsAll old new (Ok read) = IsRead old new (Ok read.items)
ReadsAll old new (Err fault) = IsRead old new (Err fault)

-- ---- lines that are read as they come

-- The first of the lines that are known was taken, and the others are left.
abbrev pub TakesLine : Option (List ℕ) → Option (List ℕ) → List ℕ → Type 0
TakesLine None new line = Unit {0}
TakesLine (Some text) None line = ⊥
TakesLine (Some text) (Some rest) line = lines_of text ≡ line ∷ lines_of rest

-- These lines were taken, one after the other, and the others are left.
abbrev pub TakesLines : Option (List ℕ) → Option (List ℕ) → List (List ℕ) → Type 0
TakesLines None new lines = Unit {0}
TakesLines (Some text) None lines = ⊥
TakesLines (Some text) (Some rest) lines = lines_of text ≡ lines ++ lines_of rest

-- Bytes of one line were lost, without its newline.
pub record LosesPart (old new : Option (List ℕ)) : Type 0 where
  pub part : List ℕ
  pub within : IsTrue (is_line part)
  pub lost : Consumes old new part

-- What reading a line comes to: a line, or none at the end; or a read failed within a line; or there was no memory, and no read
-- failed.
abbrev pub IsLineRead : Stream → Stream → Result (Option (List ℕ)) SourceFault → Type 0
IsLineRead old new (Ok None) = IsAtEnd old.bytes × (new.failed ≡ old.failed)
IsLineRead old new (Ok (Some line)) = TakesLine old.bytes new.bytes line × (new.failed ≡ old.failed)
IsLineRead old new (Err Failed) = LosesPart old.bytes new.bytes × (new.failed ≡ true)
IsLineRead old new (Err Memory) = LosesPart old.bytes new.bytes × (new.failed ≡ old.failed)

-- The code answers so whether there was a line, and which.
abbrev pub ReadsLine : Stream → Stream → List ℕ → Result Bool SourceFault → Type 0
ReadsLine old new line (Ok true) = IsLineRead old new (Ok (Some line))
ReadsLine old new line (Ok false) = IsLineRead old new (Ok None)
ReadsLine old new line (Err fault) = IsLineRead old new (Err fault)

-- This line is the first of the bytes, with its newline, where the bytes are known.
abbrev pub LiesReady : Stream → List ℕ → Type 0
LiesReady now line = IsTrue (is_line line) × IfSome now.bytes (λ text. StartsWith text (line ++ newline ∷ []))

-- The first line of some bytes has so many, and its newline follows.
abbrev pub EndsAt : List ℕ → ℕ → Type 0
EndsAt bytes count = IsTrue (is_line (take count bytes)) × (count < length bytes) × (slice_index bytes count ≡ newline)

-- ---- what the code answers on the way

-- What reading a line of a reader comes to: whether there was a line, and which.
abbrev pub ReadsNext : Option (List ℕ) → Option (List ℕ) → List ℕ → Result Bool SourceFault → Type 0
ReadsNext old new line (Ok true) = TakesLine old new line
ReadsNext old new line (Ok false) = IsAtEnd old
ReadsNext old new line (Err fault) = LosesPart old new

-- A newline was taken off the end of bytes, or there was none.
abbrev pub CutsNewline : List ℕ → List ℕ → Bool → Type 0
CutsNewline old new true = old ≡ new ++ newline ∷ []
CutsNewline old new false = (new ≡ old) × (0 < length old → slice_index old (length old - 1) ≢ newline)

-- What a call that writes a text to a writer answers.
abbrev pub Writes : Option (List ℕ) → Option (List ℕ) → List ℕ → Bool → Type 0
Writes old new text true = Appends old new text
Writes old new text false = AppendsPart old new text

-- What one call to a writer does: it takes so many bytes of the text, or none.
abbrev pub WritesSome : Option (List ℕ) → Option (List ℕ) → List ℕ → Option ℕ → Type 0
WritesSome old new text (Some count) = Appends old new (take count text) × (count ≤ length text)
WritesSome old new text None = Keeps old new

-- Why a call on a reader failed, by the kind of its error: want of memory is told of no other kind, and of this kind nothing else.
abbrev pub TellsKind : ErrorKind → SourceFault → Type 0
TellsKind kind Failed = kind ≢ OutOfMemory
TellsKind kind Memory = kind ≡ OutOfMemory
