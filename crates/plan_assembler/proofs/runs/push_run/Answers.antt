use Rattle.std.proofs.Common.{◌≡◌, true, rules}
use Rattle.plan_assembler.specs.Layout.{is_taken}
use Rattle.plan_assembler.proofs.RunSteps.{pushed_run}
use Rattle.plan_assembler.proofs.runs.push_run.Goals as goal

pub returns-in_ok-push-in-Ok : goal.returns-in_ok-push-in-Ok
returns-in_ok-push-in-Ok c =
    let yes : is_taken c.args.source.now.choice.now c.args.source.now.workflow.now ≡ true = search rules in
    let made = c.in-Ok.ensures in
    rw yes (pushed_run c.args.source.now.roots.now c.args.source.now.choice.now c.args.source.now.workflow.now made.0 c.args.first c.len-in-Ok.result c.args.runs.now.items c.push.new.self.items c.in-Ok.run' made.1.0 made.1.1
    c.in_ok-push-in-Ok.ensures.items c.len-in-Ok.ensures)
