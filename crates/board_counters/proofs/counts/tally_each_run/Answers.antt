use Rattle.board_counters.specs.Words.{run_tally}
use Rattle.board_counters.proofs.Lists.{made-more}
use Rattle.board_counters.proofs.counts.tally_each_run.Goals as goal

pub loop-place-preserved : goal.loop-place-preserved
loop-place-preserved c =
    made-more run_tally c.args.runs.now c.loop-place.place c.index-runs-place.result c.tally_run.result c.loop-place.made.items c.push.new.self.items c.loop-place-test.true c.index-runs-place.is c.tally_run.ensures
    c.in_ok-push.ensures.items c.loop-place.invariant
