use Rattle.std.proofs.Common.{List, ℕ, inl, inr, option_map, string_bytes, subst}
use Rattle.command_io.proofs.Told.{IsKept-same}
use Rattle.command_run.specs.Growing.{HasGrown}
use Rattle.command_run.specs.RecordFile.{Keeping}
use Rattle.command_run.specs.Run.{AreNotPlayed, AreTexts, RunsPlan, work_folder}
use Rattle.command_run.specs.StepLogs.{files_of, in_folder}
use Rattle.command_run.proofs.run.run_texts.Goals as goal

pub returns-in-Err : goal.returns-in-Err
returns-in-Err g c =
    let paths = g.R.Machine.paths (work_folder (option_map (λ name. name.now) c.args.read.now.words.work)) in
    inr
    (record {
      error = c.in-Err.error;
      why = subst (λ (bytes : List ℕ). AreNotPlayed paths c.args.read.now.stubs bytes c.in-Err.error) c.as_slice.ensures.value c.in-Err.ensures.only;
      told = record { kept = IsKept-same (g.O.Sink.seen c.args.out.now); said = c.refuse.ensures.line; is = c.refuse.ensures.status };
    })

pub returns-in-Ok : goal.returns-in-Ok
returns-in-Ok g c =
    let words = c.args.read.now.words in
    let grows = HasGrown g.R.Growing.GrowingFile.holds in
    let keep = Keeping g.R.Machine.writes (option_map (λ name. name.now) words.record) in
    let files = files_of g.R.Machine.logs g.R.Log.Source.seen in
    let plan = c.in-Ok.ready.plan in
    inl
    (record {
      plan = plan;
      texts = subst (λ (bytes : List ℕ). AreTexts c.args.read.now.stubs bytes plan) c.as_slice.ensures.value c.in-Ok.ensures.made;
      work = string_bytes c.in-Ok.ready.work;
      path = c.in-Ok.ensures.path;
      runs = subst
          (λ (work : List ℕ). RunsPlan grows keep (in_folder files work) plan words.workers (g.O.Sink.seen c.args.out.now) (g.O.Sink.seen c.play_ready.new.out)
          (g.E.Sink.seen c.args.err.now) (g.E.Sink.seen c.play_ready.new.err) c.play_ready.result)
          c.as_str.ensures.value c.play_ready.ensures;
    })
