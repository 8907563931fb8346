use Rattle.command_print.proofs.Flows.{GoingFlows}
use Rattle.command_print.proofs.planning.flows_of.Given as goal

-- what is left stands for what all files stand for
abbrev pub invariant-loop-file : goal.invariant-loop-file
invariant-loop-file l = GoingFlows l.files l.file-index l.flows.items
