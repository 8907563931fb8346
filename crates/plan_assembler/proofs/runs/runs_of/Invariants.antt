use Rattle.plan_assembler.proofs.RunSteps.{GoingRuns}
use Rattle.plan_assembler.proofs.runs.runs_of.Given as goal

abbrev pub invariant-loop-flow : goal.invariant-loop-flow
invariant-loop-flow l = GoingRuns l.roots l.choice l.from l.flow-index l.first l.runs.items
