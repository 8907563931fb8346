use Rattle.std.proofs.Common.{◌≡◌, ◌++◌}
use Rattle.plan_values.specs.Words.{pairs_of, viewed}
use Rattle.board_decisions.proofs.nodes.copy_values.Given as goal

-- The values that were copied and those that are left are all.
abbrev pub invariant-loop-name : goal.invariant-loop-name
invariant-loop-name l = viewed l.made ++ pairs_of l.name-iterator ≡ l.values
