use Rattle.std.proofs.Common.{◌≡◌, ◌++◌, drop}
use Rattle.command_why.specs.Roots.{run_legs_left}
use Rattle.command_why.proofs.roots.add_legs.Given as goal

abbrev pub invariant-loop-run : goal.invariant-loop-run
invariant-loop-run l =
    l.out.items ++ run_legs_left l.next (drop l.run-index l.runs) ≡ l.initial.out.items ++ run_legs_left 0 l.runs
