use Rattle.std.proofs.Common.{nat_eq, ap, sym, ◌∙◌}
use Rattle.std.specs.HashMap.{get}
use Rattle.step_host.specs.Counted.{begun_after}
use Rattle.step_host.proofs.Counted.{begun-more}
use Rattle.command_run.specs.StepLogs.{begun_of}
use Rattle.command_run.proofs.Counting.{started_on}
use Rattle.command_run.proofs.started_steps.started_steps.Goals as goal

pub loop-entry-preserved : goal.loop-entry-preserved
loop-entry-preserved c =
    let all = c.args.history.now in
    let k = c.loop-entry.entry-index in
    let e = c.entry-item.result in
    let before = c.loop-entry.invariant in
    record {
      counts = λ leg.
          c.in_ok-follow.ensures.counts leg ∙ ap (λ n. begun_after leg n e.event) (before.counts leg)
          ∙ sym (begun-more leg all k e c.loop-entry-test.true c.entry-item.is);
      lists = started_on (begun_of (get nat_eq c.loop-entry.begun)) all k e c.loop-entry.steps.items c.follow.new.steps.items c.loop-entry-test.true c.entry-item.is
          before.counts before.lists c.in_ok-follow.ensures.lists;
    }
