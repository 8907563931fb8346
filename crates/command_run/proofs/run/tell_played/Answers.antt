-- Want of memory for the lines that end the text is told, and the record is kept all the same.
use Rattle.std.proofs.Common.{option_map, inr}
use Rattle.command_io.proofs.Told.{IsKept-same}
use Rattle.command_run.proofs.Telling.{kept_of}
use Rattle.command_run.proofs.run.tell_played.Goals as goal

pub returns-in-Err : goal.returns-in-Err
returns-in-Err g c = record {
  kept = c.keep_record-kept-in-Err.result;
  keeping = kept_of g.M.Machine.writes (option_map (λ name. name.now) c.args.workspace.now.«record») c.args.plan.now (g.O.Sink.seen c.args.out.now)
      c.keep_record-kept-in-Err.result c.as_slice-history.result.now c.args.playing.now.history c.as_slice-history.ensures c.keep_record-kept-in-Err.ensures;
  told = inr (record { kept = IsKept-same _; said = c.refuse.ensures.line; is = c.refuse.ensures.status });
}
