use Rattle.std.proofs.Common.{◌≡◌, ◌++◌, drop}
use Rattle.command_print.specs.Touched.{next_numbers}
use Rattle.command_print.proofs.index.next_numbers.Given as goal

abbrev pub invariant-loop-run : goal.invariant-loop-run
invariant-loop-run l = l.all.items ++ next_numbers l.next (drop l.run-index l.runs) ≡ next_numbers (0, 0) l.runs
