-- A tree is told as its answer.
use Rattle.std.proofs.Common.{◌≡◌, ℕ, List, Some, Result, Ok, Err, refl, sym, subst}
use Rattle.status_table.specs.Words.{Entry, Plan}
use Rattle.why_notes.specs.Account.{Account, account_of}
use Rattle.command_io.proofs.Told.{IsKept-same}
use Rattle.command_io.specs.Records.{IsStopped}
use Rattle.command_io.specs.Stream.{Stream, IsRead}
use Rattle.command_io.specs.Tell.{Says}
use Rattle.command_io.specs.CommandError.{line, source_error, error_status}
use Rattle.command_io.specs.declared.stream.SourceFault.{SourceFault}
use Rattle.command_io.specs.declared.error.CommandError.{CommandError}
use Rattle.command_why.specs.declared.wanted.Wanted.{Wanted}
use Rattle.command_why.specs.Why.{GivesTree, GivesWhy, IsWhyAnswer, TellsWhy, Told, WhyAnswer, WhyTells}

-- what is told of the account of entries is told of them
pub told_of : (wanted : Wanted) (p : Plan) (es : List Entry) (a : Account) (result : Result Told CommandError) → account_of p es ≡ Some a
    → GivesTree a wanted result → GivesWhy wanted p es result
told_of wanted p es a (Ok told) leads gives = record { account = a; leads = leads; tells = gives }
told_of wanted p es a (Err error) leads gives = subst (λ (t : CommandError). IsStopped p es t) (sym gives) tt

pub why_told : (wanted : Wanted) (input input' out out' err err' : Stream) (text : List ℕ) (answer : WhyAnswer) (status : ℕ)
    → IsRead input input' (Ok text) → IsWhyAnswer wanted text answer → TellsWhy answer out out' err err' status
    → WhyTells wanted input input' out out' err err' status
why_told wanted input input' out out' err err' text answer status reads answers told =
    record { read = Ok text; reads = reads; answer = answer; answers = answers; told = told }

-- what was not read is told as its error
pub unread_why : (wanted : Wanted) (input input' out err err' : Stream) (fault : SourceFault) (status : ℕ)
    → IsRead input input' (Err fault) → Says err err' (line (source_error fault)) → status ≡ error_status (source_error fault)
    → WhyTells wanted input input' out out err err' status
unread_why wanted input input' out err err' SourceFault.Failed status reads said is = record {
  read = Err SourceFault.Failed;
  reads = reads;
  answer = Err (source_error SourceFault.Failed);
  answers = refl;
  told = record { kept = IsKept-same out; said = said; is = is };
}
unread_why wanted input input' out err err' SourceFault.Memory status reads said is = record {
  read = Err SourceFault.Memory;
  reads = reads;
  answer = Err (source_error SourceFault.Memory);
  answers = refl;
  told = record { kept = IsKept-same out; said = said; is = is };
}
