use Rattle.std.proofs.Common.{◌≡◌, ◌++◌, drop}
use Rattle.command_why.specs.Parts.{run_parts}
use Rattle.command_why.proofs.parts.add_runs.Given as goal

abbrev pub invariant-loop-number : goal.invariant-loop-number
invariant-loop-number l =
    l.out.items ++ run_parts l.number (drop l.number l.runs) ≡ l.initial.out.items ++ run_parts 0 l.runs
