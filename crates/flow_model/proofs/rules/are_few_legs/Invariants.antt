use Rattle.std.proofs.Common.{◌≡◌, ◌+◌, take}
use Rattle.flow_model.specs.Rules.{legs_of_runs}
use Rattle.flow_model.proofs.rules.are_few_legs.Given as goal

abbrev pub invariant-loop-run : goal.invariant-loop-run
invariant-loop-run l = l.left + legs_of_runs (take l.run-index l.runs) ≡ 4096
