use Rattle.std.proofs.Common.{◌≡◌, ◌≤◌, ◌+◌, drop, length}
use Rattle.std.specs.List.{AllByRecursion}
use Rattle.flow_model.specs.Flow.{IsWorkflow}
use Rattle.plan_assembler.specs.Layout.{taken}
use Rattle.plan_assembler.proofs.planner.count_taken.Given as goal

abbrev pub invariant-loop-flow : goal.invariant-loop-flow
invariant-loop-flow l =
    (l.count + length (taken l.choice (drop l.flow-index l.from)) ≡ length (taken l.choice l.from)) × (l.count ≤ l.flow-index)
    × (AllByRecursion IsWorkflow (taken l.choice (drop l.flow-index l.from)) → AllByRecursion IsWorkflow (taken l.choice l.from))
