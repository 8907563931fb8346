-- What is shown of a record is told as its answer.
use Rattle.std.proofs.Common.{◌≡◌, ℕ, List, Result, Ok, Err, refl}
use Rattle.command_io.proofs.Told.{IsKept-same}
use Rattle.command_io.specs.Records.{GivesPrinted, IsShownAnswer, Shown, TellsShown}
use Rattle.command_io.specs.Stream.{Stream, IsRead}
use Rattle.command_io.specs.Tell.{Answer, Printed, OrMemory, Says, TellsBy, printed_status, printed_text}
use Rattle.command_io.specs.CommandError.{line, source_error, error_status}
use Rattle.command_io.specs.declared.stream.SourceFault.{SourceFault}
use Rattle.command_io.specs.declared.error.CommandError.{CommandError}

-- what is drawn is an answer
pub printed_answers : (shows : Shown) (text : List ℕ) (result : Result Printed CommandError) → GivesPrinted shows text result
    → OrMemory (printed_text result) (IsShownAnswer shows (printed_status result) text (printed_text result))
printed_answers shows text (Ok both) gives = gives
printed_answers shows text (Err error) gives = gives

pub shown_told : (shows : Shown) (input input' out out' err err' : Stream) (text : List ℕ) (done : ℕ) (answer : Answer) (status : ℕ)
    → IsRead input input' (Ok text) → OrMemory answer (IsShownAnswer shows done text answer) → TellsBy done answer out out' err err' status
    → TellsShown shows input input' out out' err err' status
shown_told shows input input' out out' err err' text done answer status reads answers told =
    record { done = done; read = Ok text; reads = reads; answer = answer; answers = answers; told = told }

-- what was not read is told as its error
pub unread_shown : (shows : Shown) (input input' out err err' : Stream) (fault : SourceFault) (status : ℕ)
    → IsRead input input' (Err fault) → Says err err' (line (source_error fault)) → status ≡ error_status (source_error fault)
    → TellsShown shows input input' out out err err' status
unread_shown shows input input' out err err' SourceFault.Failed status reads said is = record {
  done = 0;
  read = Err SourceFault.Failed;
  reads = reads;
  answer = Err (source_error SourceFault.Failed);
  answers = refl;
  told = record { kept = IsKept-same out; said = said; is = is };
}
unread_shown shows input input' out err err' SourceFault.Memory status reads said is = record {
  done = 0;
  read = Err SourceFault.Memory;
  reads = reads;
  answer = Err (source_error SourceFault.Memory);
  answers = refl;
  told = record { kept = IsKept-same out; said = said; is = is };
}
