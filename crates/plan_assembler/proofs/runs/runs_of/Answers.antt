use Rattle.std.proofs.Common.{◌≡◌, ◌≤◌, length, get_or, refl, rules}
use Rattle.plan_assembler.specs.Layout.{is_taken}
use Rattle.plan_assembler.proofs.RunSteps.{next_run, run_fails, all_runs}
use Rattle.plan_assembler.proofs.runs.runs_of.Goals as goal

pub returns-in-Err : goal.returns-in-Err
returns-in-Err c =
    let ws = c.as_slice-from.result.now in
    let w = c.workflow.result.now in
    let at : w ≡ get_or ws c.loop-flow.flow-index w = rw c.workflow.ensures.same c.flow-item.is in
    rw (← c.as_slice-from.ensures) (run_fails c.args.roots.now c.args.choice.now ws c.loop-flow.flow-index c.loop-flow.first c.loop-flow.runs.items w c.in-Err.fault c.loop-flow-test.true at c.loop-flow.invariant c.in-Err.ensures)

pub loop-flow-preserved : goal.loop-flow-preserved
loop-flow-preserved c =
    let ws = c.as_slice-from.result.now in
    let w = c.workflow.result.now in
    let at : w ≡ get_or ws c.loop-flow.flow-index w = rw c.workflow.ensures.same c.flow-item.is in
    next_run c.args.roots.now c.args.choice.now ws c.loop-flow.flow-index c.loop-flow.first c.in-Ok.next c.loop-flow.runs.items c.push_run.new.runs.items w (is_taken c.args.choice.now w) c.loop-flow-test.true at refl
    c.loop-flow.invariant c.in-Ok.ensures

pub returns : goal.returns
returns c =
    let ws = c.as_slice-from.result.now in
    let past : length ws ≤ c.loop-flow.flow-index = search rules in
    rw (c.new.ensures, ← c.as_slice-from.ensures) (all_runs c.args.roots.now c.args.choice.now ws c.loop-flow.flow-index c.loop-flow.first c.loop-flow.runs.items past c.loop-flow.invariant)
