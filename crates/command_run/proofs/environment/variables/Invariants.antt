use Rattle.command_run.proofs.Variables.{VariablesSoFar}
use Rattle.command_run.proofs.environment.variables.Given as goal

abbrev pub invariant-loop-number : goal.invariant-loop-number
invariant-loop-number g l = VariablesSoFar (g.R.Environment.holds l.rt) l.number l.variables
