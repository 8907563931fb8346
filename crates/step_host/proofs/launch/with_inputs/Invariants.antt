-- What was set, with the inputs that are left set over it, is all set over the variables.
use Rattle.std.proofs.Common.{◌≡◌}
use Rattle.status_table.specs.Words.{pairs_of}
use Rattle.flow_commands.specs.PairFiles.{with_pairs}
use Rattle.step_host.specs.Program.{inputs_of}
use Rattle.step_host.proofs.launch.with_inputs.Given as goal

abbrev pub invariant-loop-name : goal.invariant-loop-name
invariant-loop-name l = with_pairs l.made (inputs_of (pairs_of l.name-iterator)) ≡ with_pairs l.fn.under (inputs_of l.given)
