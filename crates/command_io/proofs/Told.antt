-- What was said is told, and a source that failed is told.
use Rattle.std.proofs.Common.{◌≡◌, ℕ, Bool, List, Option, Some, None, Result, Ok, Err, refl, subst}
use Rattle.std.specs.Io.KnownBytes.{Keeps}
use Rattle.command_io.specs.Stream.{Stream, IsKept, Puts}
use Rattle.command_io.specs.Tell.{Answer, OrMemory, Says, Tells, TellsOf, TellsSome}
use Rattle.command_io.specs.CommandError.{line, source_error, error_status, UnlessMemory}
use Rattle.command_io.specs.declared.stream.SourceFault.{SourceFault}
use Rattle.command_io.specs.declared.error.CommandError.{CommandError}
use Rattle.command_io.specs.declared.error.CommandError.TheVariants.{NoExpression, NoValue, NoContexts, NoFlow, NotPlanned, NoPlan, NoEntry, Refused, Words, Io, Memory}

-- the same line under another form
pub Puts-as : (a b : Stream) (x y : List ℕ) (whole : Bool) → Puts a b x whole → x ≡ y → Puts a b y whole
Puts-as a b x y whole done is = subst (λ (text : List ℕ). Puts a b text whole) is done

bytes_kept : (known : Option (List ℕ)) → Keeps known known
bytes_kept None = tt
bytes_kept (Some held) = refl

pub IsKept-same : (s : Stream) → IsKept s s
IsKept-same s = (bytes_kept s.bytes, refl)

-- what was read is answered
pub read_told : {A : Type 0} (Is : A → Answer → Type 0) (Reads : Result A SourceFault → Type 0) (out out' err err' : Stream) (read : A) (answer : Answer) (status : ℕ)
    → Reads (Ok read) → OrMemory answer (Is read answer) → Tells answer out out' err err' status → TellsOf Is Reads out out' err err' status
read_told Is Reads out out' err err' read answer status reads answers told =
    record { read = Ok read; reads = reads; answer = answer; answers = answers; told = told }

-- what was not read is told as its error
pub unread_told : {A : Type 0} (Is : A → Answer → Type 0) (Reads : Result A SourceFault → Type 0) (out err err' : Stream) (fault : SourceFault) (status : ℕ)
    → Reads (Err fault) → Says err err' (line (source_error fault)) → status ≡ error_status (source_error fault)
    → TellsOf Is Reads out out err err' status
unread_told Is Reads out err err' SourceFault.Failed status reads said is = record {
  read = Err SourceFault.Failed;
  reads = reads;
  answer = Err (source_error SourceFault.Failed);
  answers = refl;
  told = record { kept = IsKept-same out; said = said; is = is };
}
unread_told Is Reads out err err' SourceFault.Memory status reads said is = record {
  read = Err SourceFault.Memory;
  reads = reads;
  answer = Err (source_error SourceFault.Memory);
  answers = refl;
  told = record { kept = IsKept-same out; said = said; is = is };
}

-- an error that is said is told, and out is as it was
pub refused : (error : CommandError) (out err err' : Stream) (status : ℕ) → Says err err' (line error) → status ≡ error_status error → TellsSome out out err err' status
refused error out err err' status said is = (error, record { kept = IsKept-same out; said = said; is = is })

-- what follows from a fact holds too, unless there is no memory
pub unless : (t : CommandError) (A B : Type 0) → (A → B) → UnlessMemory t A → UnlessMemory t B
unless (NoExpression fault) A B f h = f h
unless (NoValue fault) A B f h = f h
unless (NoContexts file fault) A B f h = f h
unless (NoFlow file fault) A B f h = f h
unless (NotPlanned fault) A B f h = f h
unless (NoPlan fault) A B f h = f h
unless (NoEntry n) A B f h = f h
unless (Refused n fault) A B f h = f h
unless Words A B f h = f h
unless Io A B f h = f h
unless Memory A B f h = tt
